-- A manager that goes on from the number which comes next does what the bus says of it.
use Rattle.std.proofs.Common.{◌≡◌, ℕ, zero, suc, ◌+◌, ◌-◌, ◌≤◌, Bool, false, ◌&&◌, eqb, ltb, cond, List, [], ◌∷◌, length, drop, Option, Some, None, refl, sym, ◌∙◌, ap, arith, inl, inr}
use Rattle.std.specs.Prelude.{slice_get}
use Rattle.std.proofs.lemmas.Bool.{lt-ltb, le-ltb, ltb-false, cases_lt, cond_both}
use Rattle.std.proofs.lemmas.List.{length-drop}
use Rattle.model_bus.specs.Request.{Request}
use Rattle.model_bus.specs.Numbering.{Rules, ipmb, smbus, tag_of}
use Rattle.model_bus.specs.BusState.{BusState, Frame, Content, Ask, Reply, Event, Begins, SendsAgain, ReachesPort, ReachesManager, OtherAsks, OtherReplies, IsIdle, Resumes, is_open, begins, sends_again, comes, at_port, taken_content, taken_now, taken_from, takes_if, happens, run}
use Rattle.model_bus.specs.Repeat.{In}
use Rattle.model_bus.specs.Packet.{Packet}
use Rattle.model_bus.specs.Assembly.{is_name, SentPacket, Step, Waits, Whole, Drops, takes, message_of}
use Rattle.model_bus.specs.PacketBus.{PacketBus, rules_of, request_name, reply_name, BusEnds, PacketEvent, Plain, PacketReachesPort, PacketReachesManager, OtherPacket, OtherReplyPacket, Closes, Clears, PacketResumes, set_at, is_awaited, whole_comes, whole_returns, other_request, hears_other, port_takes, manager_takes, packet_comes, packet_returns, packet_at_port, packet_at_manager, packet_happens, packet_run}
use Rattle.model_bus.specs.PacketSchedule.{JoinRule}
use Rattle.model_bus.specs.Resume.{known_since, ActsAs, ResumedGoesOn, GoesOnInPackets, TagsGoOn, NothingWaitsWhereClosed}
use Rattle.model_bus.proofs.Lists.{length_more}
use Rattle.model_bus.proofs.NumberLaws.{IsNumbering, ipmb_numbers, smbus_numbers}
use Rattle.model_bus.proofs.Steps.{Holds, start_holds, run_holds}
use Rattle.model_bus.proofs.WholeMessages.{honest_prefix, honest_rest}
use Rattle.model_bus.proofs.PacketEnds.{packet_run_holds, start_ends_hold}
use Rattle.model_bus.proofs.PacketLaws.{AsksNoLess, all_imply, packet_prefix, packet_rest}

-- what stands past the first few
past : {X : Type 0} (n : ℕ) (xs : List X) (m : ℕ) → slice_get (drop n xs) m ≡ slice_get xs (n + m)
past zero xs m = ap (slice_get xs) (omega arith)
past (suc n) [] m = refl
past (suc n) (x ∷ xs) m = let next : suc (n + m) ≡ suc n + m = omega arith in past n xs m ∙ ap (slice_get (x ∷ xs)) next

same_test : (low high n : ℕ) → n ≤ low → n ≤ high → ltb (low - n) (high - n) ≡ ltb low high
same_test low high n in_low in_high =
    elim (cases_lt low high) [
      | inl less ↦ lt-ltb (low - n) (high - n) (omega arith) ∙ sym (lt-ltb low high less)
      | inr more ↦ le-ltb (low - n) (high - n) (omega arith) ∙ sym (le-ltb low high more)
    ]

-- numbers go on from the number that comes next
abbrev pub NumbersGoOn : (ℕ → Rules) → Type 0
NumbersGoOn bus = (first n later : ℕ) → (bus ((bus first).number_of n)).number_of later ≡ (bus first).number_of (n + later)

pub ipmb_goes_on : (manager controller : ℕ) → NumbersGoOn (ipmb manager controller)
ipmb_goes_on manager controller first n later = omega arith

pub smbus_goes_on : (manager controller : ℕ) → NumbersGoOn (smbus manager controller)
smbus_goes_on manager controller first n later = omega arith

pub tags_go_on : TagsGoOn
tags_go_on first n later = omega arith

-- at least as much was begun and taken
abbrev pub Longer : BusState → BusState → Type 0
Longer old new = (length old.begun ≤ length new.begun) × (length old.taken ≤ length new.taken)

module _ (bus : ℕ → Rules) (go_on : NumbersGoOn bus) where
  -- by what it knows the new manager does what the bus says
  pub acts_as : (first : ℕ) (old s : BusState) → length old.taken ≡ length old.begun → Longer old s → ActsAs (bus ((bus first).number_of (length old.begun))) (known_since old s) (bus first) s
  acts_as first old s closed longer =
      let known = known_since old s in
      let own = bus ((bus first).number_of (length old.begun)) in
      let in_begun = longer.0 in let in_taken = longer.1 in
      let begun : length known.begun ≡ length s.begun - length old.begun = length-drop (length old.begun) s.begun in
      let taken : length known.taken ≡ length s.taken - length old.begun = length-drop (length old.taken) s.taken ∙ ap (λ (n : ℕ). length s.taken - n) closed in
      let place : length old.begun + length known.taken ≡ length s.taken = omega arith in
      let next : length old.begun + length known.begun ≡ length s.begun = omega arith in
      let opened : is_open known ≡ is_open s =
      ap (λ (n : ℕ). ltb n (length known.begun)) taken ∙ ap (ltb (length s.taken - length old.begun)) begun ∙ same_test (length s.taken) (length s.begun) (length old.begun) (omega arith) in_begun in
      let open_number : own.number_of (length known.taken) ≡ (bus first).number_of (length s.taken) = go_on first (length old.begun) (length known.taken) ∙ ap (bus first).number_of place in
      record {
        opened = opened;
        open_request = past (length old.begun) s.begun (length known.taken) ∙ ap (slice_get s.begun) place;
        open_number = open_number;
        next_number = go_on first (length old.begun) (length known.begun) ∙ ap (bus first).number_of next;
        takes = same_takes own (bus first) known s opened open_number;
      }
    where
      same_takes : (own b : Rules) (known s : BusState) → is_open known ≡ is_open s → own.number_of (length known.taken) ≡ b.number_of (length s.taken) → (c : Content) → taken_content own c known ≡ taken_content b c s
      same_takes own b known s opened number (Ask bytes) = refl
      same_takes own b known s opened number (Reply n None) = refl
      same_takes own b known s opened number (Reply n (Some reply)) =
          let none : Option (List ℕ) = None in
          ap (λ (t : Bool). cond (t && eqb n (own.number_of (length known.taken))) (Some reply) none) opened
          ∙ ap (λ (m : ℕ). cond (is_open s && eqb n m) (Some reply) none) number

stays_long : (s : BusState) → Longer s s
stays_long s = (omega arith, omega arith)

takes_longer : (o : Option (List ℕ)) (s : BusState) → Longer s (takes_if o s)
takes_longer None s = stays_long s
takes_longer (Some reply) s = let more = length_more s.taken reply in (omega arith, omega arith)

still_longer : (old mid new : BusState) → Longer old mid → Longer mid new → Longer old new
still_longer old mid new one two = let a = one.0 in let b = one.1 in let c = two.0 in let d = two.1 in (omega arith, omega arith)

module _ (b : Rules) where
  again_longer : (o : Option (List ℕ)) (s : BusState) → Longer s (sends_again b o s)
  again_longer None s = stays_long s
  again_longer (Some bytes) s = stays_long s

  comes_longer : (answer : List ℕ) (n : ℕ) (c : Content) (s : BusState) → Longer s (comes b answer n c s)
  comes_longer answer n (Ask bytes) s = stays_long s
  comes_longer answer n (Reply number reply) s = stays_long s

  at_port_longer : (answer : List ℕ) (o : Option Frame) (s : BusState) → Longer s (at_port b answer o s)
  at_port_longer answer None s = stays_long s
  at_port_longer answer (Some f) s = comes_longer answer f.request f.content s

  happens_longer : (s : BusState) (e : Event) → Longer s (happens b s e)
  happens_longer s (Begins bytes) =
      let more = length_more s.begun bytes in
      cond_both (is_open s) s (begins b bytes s) (Longer s) (λ _. stays_long s) (λ _. (omega arith, omega arith))
  happens_longer s SendsAgain = again_longer (slice_get s.begun (length s.taken)) s
  happens_longer s (ReachesPort which answer) = at_port_longer answer (slice_get s.frames which) s
  happens_longer s (ReachesManager which) = takes_longer (taken_now b (slice_get s.frames which) s) s
  happens_longer s (OtherAsks request answer) = stays_long s
  happens_longer s (OtherReplies source number reply) = takes_longer (taken_from b source number reply s) s
  happens_longer s (IsIdle requester) = stays_long s
  happens_longer s Resumes = stays_long s

  pub run_longer : (events : List Event) (s : BusState) → Longer s (run b events s)
  run_longer [] s = stays_long s
  run_longer (e ∷ es) s = still_longer s (happens b s e) (run b es (happens b s e)) (happens_longer s e) (run_longer es (happens b s e))

  whole_comes_longer : (answer : List ℕ) (n : ℕ) (st : Step) (s : BusState) → Longer s (whole_comes b answer n st s)
  whole_comes_longer answer n Waits s = stays_long s
  whole_comes_longer answer n Drops s = stays_long s
  whole_comes_longer answer n (Whole ss) s = stays_long s

  whole_returns_longer : (number : ℕ) (st : Step) (s : BusState) → Longer s (whole_returns b number st s)
  whole_returns_longer number Waits s = stays_long s
  whole_returns_longer number Drops s = stays_long s
  whole_returns_longer number (Whole ss) s = takes_longer (taken_content b (Reply number (Some (message_of ss))) s) s

-- the manager's requests where none is open
pub closed_lengths : (b : Rules) (s : BusState) → Holds b s → is_open s ≡ false → length s.taken ≡ length s.begun
closed_lengths b s h closed =
    let answered = h.sound.answered in let below = h.sound.below in
    let none : length s.begun ≤ length s.taken = ltb-false _ _ closed in
    omega arith

goes_on : (bus : ℕ → Rules) → NumbersGoOn bus → ((first : ℕ) → IsNumbering (bus first)) → ResumedGoesOn bus
goes_on bus go_on numbers first start events later none empty honest =
    let b = bus first in
    let old = run b events start in
    let holds = run_holds b (numbers first) events start (start_holds b start none empty) (honest_prefix b events (Resumes ∷ later) start honest) in
    let closed = closed_lengths b old holds (honest_rest b events (Resumes ∷ later) start honest).0 in
    acts_as bus go_on first old (run b later old) closed (run_longer b later old)

pub ipmb_resumes : (manager controller : ℕ) → ResumedGoesOn (ipmb manager controller)
ipmb_resumes manager controller = goes_on (ipmb manager controller) (ipmb_goes_on manager controller) (ipmb_numbers manager controller)

pub smbus_resumes : (manager controller : ℕ) → ResumedGoesOn (smbus manager controller)
smbus_resumes manager controller = goes_on (smbus manager controller) (smbus_goes_on manager controller) (smbus_numbers manager controller)

module _ (b : PacketBus) where
  abbrev rules : Rules
  rules = rules_of b

  port_longer : (answer : List ℕ) (n idles : ℕ) (o : Option Packet) (x : BusEnds) → Longer x.bus (port_takes b answer n idles o x).bus
  port_longer answer n idles None x = stays_long x.bus
  port_longer answer n idles (Some p) x = whole_comes_longer rules answer n (takes (x.port (request_name b n)) (record { request = n; idles = idles; packet = p })).0 x.bus

  manager_longer : (number n idles : ℕ) (o : Option Packet) (x : BusEnds) → Longer x.bus (manager_takes b number n idles o x).bus
  manager_longer number n idles None x = stays_long x.bus
  manager_longer number n idles (Some p) x = whole_returns_longer rules number (takes (x.manager (reply_name b n)) (record { request = n; idles = idles; packet = p })).0 x.bus

  packet_comes_longer : (answer : List ℕ) (place n idles : ℕ) (c : Content) (x : BusEnds) → Longer x.bus (packet_comes b answer place n idles c x).bus
  packet_comes_longer answer place n idles (Ask bytes) x = port_longer answer n idles (slice_get (b.split bytes) place) x
  packet_comes_longer answer place n idles (Reply number reply) x = stays_long x.bus

  packet_returns_longer : (place n idles : ℕ) (c : Content) (x : BusEnds) → Longer x.bus (packet_returns b place n idles c x).bus
  packet_returns_longer place n idles (Ask bytes) x = stays_long x.bus
  packet_returns_longer place n idles (Reply number None) x =
      cond_both (is_awaited b n x.bus) (record x { manager = set_at (reply_name b n) [] x.manager }) x (λ (y : BusEnds). Longer x.bus y.bus) (λ _. stays_long x.bus) (λ _. stays_long x.bus)
  packet_returns_longer place n idles (Reply number (Some reply)) x =
      let o = slice_get (b.split reply) place in
      cond_both (is_awaited b n x.bus) (manager_takes b number n idles o x) x (λ (y : BusEnds). Longer x.bus y.bus) (λ _. manager_longer number n idles o x) (λ _. stays_long x.bus)

  packet_at_port_longer : (answer : List ℕ) (place : ℕ) (o : Option Frame) (x : BusEnds) → Longer x.bus (packet_at_port b answer place o x).bus
  packet_at_port_longer answer place None x = stays_long x.bus
  packet_at_port_longer answer place (Some f) x = packet_comes_longer answer place f.request f.idles f.content x

  packet_at_manager_longer : (place : ℕ) (o : Option Frame) (x : BusEnds) → Longer x.bus (packet_at_manager b place o x).bus
  packet_at_manager_longer place None x = stays_long x.bus
  packet_at_manager_longer place (Some f) x = packet_returns_longer place f.request f.idles f.content x

  other_longer : (answer : List ℕ) (asked : Option Request) (s : BusState) → Longer s (hears_other rules answer asked s)
  other_longer answer None s = stays_long s
  other_longer answer (Some r) s = stays_long s

  packet_longer : (x : BusEnds) (e : PacketEvent) → Longer x.bus (packet_happens b x e).bus
  packet_longer x (Plain e) = happens_longer rules x.bus e
  packet_longer x (PacketReachesPort which place answer) = packet_at_port_longer answer place (slice_get x.bus.frames which) x
  packet_longer x (PacketReachesManager which place) = packet_at_manager_longer place (slice_get x.bus.frames which) x
  packet_longer x (OtherPacket name packet answer) = other_longer answer (other_request name (takes (x.port name) (record { request = 0; idles = 0; packet = packet })).0) x.bus
  packet_longer x (OtherReplyPacket name packet number) =
      let n = length x.bus.taken in
      cond_both (is_open x.bus && is_name name (reply_name b n)) (manager_takes b number n 0 (Some packet) x) x (λ (y : BusEnds). Longer x.bus y.bus)
      (λ _. manager_longer number n 0 (Some packet) x) (λ _. stays_long x.bus)
  packet_longer x (Closes name) = stays_long x.bus
  packet_longer x Clears = stays_long x.bus
  packet_longer x PacketResumes = stays_long x.bus

  pub packets_longer : (events : List PacketEvent) (x : BusEnds) → Longer x.bus (packet_run b events x).bus
  packets_longer [] x = stays_long x.bus
  packets_longer (e ∷ es) x = still_longer x.bus (packet_happens b x e).bus (packet_run b es (packet_happens b x e)).bus (packet_longer x e) (packets_longer es (packet_happens b x e))

pub packets_resume : (rule : JoinRule) → AsksNoLess rule → GoesOnInPackets rule
packets_resume rule asks b cutting start events later none waits empty honest =
    let old = packet_run b events start in
    let first_honest = all_imply rule asks b events start (packet_prefix rule b events (PacketResumes ∷ later) start honest) in
    let ok = packet_run_holds b cutting start.bus.log events start (start_ends_hold b cutting start none waits empty) first_honest in
    let closed = closed_lengths (rules_of b) old.bus ok.holds (packet_rest rule b events (PacketResumes ∷ later) start honest).0 in
    acts_as (smbus b.manager b.controller) (smbus_goes_on b.manager b.controller) b.first old.bus (packet_run b (PacketResumes ∷ later) old).bus closed (packets_longer b (PacketResumes ∷ later) old)

no_members : (ts : List SentPacket) → ((t : SentPacket) → In t ts → ⊥) → ts ≡ []
no_members [] none = refl
no_members (t ∷ ts) none = absurd (none t (inl refl))

pub waits_where_closed : (rule : JoinRule) → AsksNoLess rule → NothingWaitsWhereClosed rule
waits_where_closed rule asks b cutting start events none waits empty honest closed n =
    let x = packet_run b events start in
    let ok = packet_run_holds b cutting start.bus.log events start (start_ends_hold b cutting start none waits empty) (all_imply rule asks b events start honest) in
    let no_open : length x.bus.begun ≤ length x.bus.taken = ltb-false _ _ closed in
    no_members (x.manager (reply_name b n)) (λ t is. let opened = (ok.awaited (tag_of b.first n) t is).1 in absurd (omega arith))
