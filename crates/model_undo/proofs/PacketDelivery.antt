-- Packets that are brought to their end one after another, as soon as their frame is sent, are its message there.
use Rattle.std.proofs.Common.{◌≡◌, ◌⊎◌, ℕ, suc, ◌+◌, ◌≤◌, Bool, true, false, ◌||◌, not, eqb, ltb, cond, List, [], ◌∷◌, ◌++◌, length, Option, Some, None, refl, sym, ◌∙◌, ap, subst, lit≤, arith, inl, inr}
use Rattle.std.specs.Prelude.{slice_get, IfSome, if◌then◌else◌}
use Rattle.std.proofs.lemmas.Bool.{cond_both, cond-true, and_from, eq-eqb}
use Rattle.std.proofs.lemmas.Option.{same_Some}
use Rattle.model_bus.specs.Request.{Request as Heard}
use Rattle.model_bus.specs.Carried.{Outcome, IsNew, outcome, is_busy}
use Rattle.model_bus.specs.Numbering.{tag_of}
use Rattle.model_bus.specs.BusState.{BusState, Frame, Content, Ask, Reply, request_of, new_bytes, hears, taken_content, takes_if}
use Rattle.model_bus.specs.Repeat.{In}
use Rattle.model_bus.specs.Packet.{Packet, IsCut, IsCutting}
use Rattle.model_bus.specs.Assembly.{Name, is_name, SentPacket, Step, Waits, Whole, Drops, joined, takes, waiting, first_request, message_of}
use Rattle.model_bus.specs.PacketBus.{PacketBus, rules_of, request_name, reply_name, BusEnds, PacketEvent, PacketReachesPort, PacketReachesManager, set_at, whole_comes, whole_returns, is_awaited, packet_at_port, packet_at_manager, packet_comes, packet_returns, port_takes, manager_takes, packet_happens}
use Rattle.model_bus.specs.PacketEffect.{whole_request, whole_reply, step_of, completed_request, completed_reply, carried_of, taken_of}
use Rattle.model_bus.specs.PacketSchedule.{RecentWhereWhole, PacketMayJoin, JoinsAtPort}
use Rattle.model_bus.specs.Schedule.{IsLive}
use Rattle.model_bus.specs.CleanLink.{sent_in, CompletesMessage}
use Rattle.model_bus.proofs.NumberLaws.{smbus_numbers}
use Rattle.model_bus.proofs.Assemblies.{in_push}
use Rattle.model_bus.proofs.PacketSteps.{in_waiting}
use Rattle.model_bus.proofs.Steps.{Holds, heard}
use Rattle.model_bus.proofs.CleanLink.{open_is_new, goes_through, cut_is_whole}
use Rattle.model_undo.specs.Line.{exchange, packets, carried_at, brought_at}
use Rattle.model_undo.specs.Delivery.{newest, packets_of_content, packets_of_frame, each_place, by_packets}
use Rattle.model_undo.proofs.LineLaws.{packets_are_line}
use Rattle.model_undo.proofs.Delivery.{HasCarried, HasBrought, LosesNothing, JustAsked, JustAnswered, just_begun, answered_after}

-- ---- what waits behind a packet that waits

abbrev IsWaits : Step → Type 0
IsWaits Waits = Unit {0}
IsWaits Drops = ⊥
IsWaits (Whole ss) = ⊥

joined_waits : (taken : List SentPacket) (s : SentPacket) → IsWaits (joined taken s).0 → (joined taken s).1 ≡ taken ++ s ∷ []
joined_waits taken s =
    let P : Step × List SentPacket → Type 0 = (λ r. IsWaits r.0 → r.1 ≡ taken ++ s ∷ []) in
    cond_both (ltb 3 (length taken) || not (eqb s.packet.sequence (length taken))) (Drops, []) (cond s.packet.last (Whole (taken ++ s ∷ []), []) (cond (not (eqb (length s.packet.payload) 64)) (Drops, []) (Waits, taken ++ s ∷ []))) P
    (λ _ w. absurd w)
    (λ _. cond_both s.packet.last (Whole (taken ++ s ∷ []), []) (cond (not (eqb (length s.packet.payload) 64)) (Drops, []) (Waits, taken ++ s ∷ [])) P
    (λ _ w. absurd w)
    (λ _. cond_both (not (eqb (length s.packet.payload) 64)) (Drops, []) (Waits, taken ++ s ∷ []) P (λ _ w. absurd w) (λ _ w. refl)))

takes_waits : (taken : List SentPacket) (s : SentPacket) → IsWaits (takes taken s).0 → (t : SentPacket) → In t (takes taken s).1 → In t (waiting taken s) ⊎ (s ≡ t)
takes_waits [] s =
    cond_both s.packet.first (joined [] s) (Drops, []) (λ r. IsWaits r.0 → (t : SentPacket) → In t r.1 → In t (waiting [] s) ⊎ (s ≡ t))
    (λ first w t is. elim (in_push [] s t (subst (In t) (joined_waits [] s w) is)) [ inl none ↦ absurd none | inr e ↦ inr e ]) (λ _ w t is. absurd w)
takes_waits (u ∷ us) s =
    cond_both s.packet.first (joined [] s) (joined (u ∷ us) s) (λ r. IsWaits r.0 → (t : SentPacket) → In t r.1 → In t (waiting (u ∷ us) s) ⊎ (s ≡ t))
    (λ first w t is. elim (in_push [] s t (subst (In t) (joined_waits [] s w) is)) [ inl none ↦ absurd none | inr e ↦ inr e ])
    (λ later w t is. elim (in_push (u ∷ us) s t (subst (In t) (joined_waits (u ∷ us) s w) is)) [ inl old ↦ inl (subst (λ (b : Bool). In t (if b then [] else u ∷ us)) (sym later) old) | inr e ↦ inr e ])

name_self : (n : Name) → is_name n n ≡ true
name_self n = and_from _ _ (and_from _ _ (eq-eqb n.source n.source refl) (owner_self n.owner)) (eq-eqb n.tag n.tag refl)
  where
    owner_self : (owner : Bool) → (if owner then owner else not owner) ≡ true
    owner_self true = refl
    owner_self false = refl

set_here : (name : Name) (taken : List SentPacket) (f : Name → List SentPacket) → set_at name taken f name ≡ taken
set_here name taken f = cond-true _ _ _ (name_self name)

module _ (b : PacketBus) (cutting : IsCutting b.split) (x : BusEnds) (which : ℕ) (f : Frame) (at : slice_get x.bus.frames which ≡ Some f) (live : IsLive (rules_of b) x.bus f) where
  abbrev one : Packet → SentPacket
  one p = record { request = f.request; idles = f.idles; packet = p }

  -- ---- at the port

  module _ (bytes answer : List ℕ) (h : Holds (rules_of b) x.bus) (a : JustAsked (rules_of b) (smbus_numbers b.manager b.controller b.first) (lit≤ tt) x.bus bytes) (own : f.request ≡ length x.bus.taken) (holds : f.content ≡ Ask bytes)
      (whole : List SentPacket) (first_is : first_request f.request whole ≡ f.request) (message_is : message_of whole ≡ bytes) where
    abbrev at_port : (Name → List SentPacket) → BusEnds
    at_port port = record { bus = x.bus; port = port; manager = x.manager }

    abbrev name : Name
    name = request_name b f.request

    abbrev event : ℕ → PacketEvent
    event place = PacketReachesPort which place answer

    -- both ends after a packet
    abbrev after : (Name → List SentPacket) → Step × List SentPacket → BusEnds
    after port r = record { bus = whole_comes (rules_of b) answer f.request r.0 x.bus; port = set_at name r.1 port; manager = x.manager }

    comes_so : (place : ℕ) (p : Packet) (port : Name → List SentPacket) → slice_get (b.split bytes) place ≡ Some p → packet_happens b (at_port port) (event place) ≡ after port (takes (port name) (one p))
    comes_so place p port there =
        ap (λ (o : Option Frame). packet_at_port b answer place o (at_port port)) at
        ∙ ap (λ (c : Content). packet_comes b answer place f.request f.idles c (at_port port)) holds
        ∙ ap (λ (o : Option Packet). port_takes b answer f.request f.idles o (at_port port)) there

    honest_so : (place : ℕ) (p : Packet) (port : Name → List SentPacket) → slice_get (b.split bytes) place ≡ Some p → ((t : SentPacket) → In t (waiting (port name) (one p)) → t.request ≡ f.request)
        → (packets b).IsHonest (at_port port) (event place)
    honest_so place p port there waits =
        let recent = live.0 in
        let joins : PacketMayJoin RecentWhereWhole (rules_of b) x.bus (port name) f.request f.idles (slice_get (b.split bytes) place) =
        subst (λ (o : Option Packet). PacketMayJoin RecentWhereWhole (rules_of b) x.bus (port name) f.request f.idles o) (sym there)
        (λ _ t is. subst (λ (n : ℕ). length x.bus.begun ≤ n + 8) (sym (waits t is)) recent) in
        subst (λ (o : Option Frame). IfSome o (λ g. IsLive (rules_of b) x.bus g × JoinsAtPort RecentWhereWhole b (at_port port) place g.request g.idles g.content)) (sym at)
        (live, subst (λ (c : Content). JoinsAtPort RecentWhereWhole b (at_port port) place f.request f.idles c) (sym holds) joins)

    completes_so : (place : ℕ) (p : Packet) (port : Name → List SentPacket) → slice_get (b.split bytes) place ≡ Some p
        → (packets b).carries (at_port port) (event place) ≡ exchange (carried_of (rules_of b) (whole_request (rules_of b) f.request (takes (port name) (one p)).0) x.bus) answer
    completes_so place p port there =
        ap (λ (o : Option Frame). exchange (carried_at b (at_port port) place o) answer) at
        ∙ ap (λ (c : Content). exchange (carried_of (rules_of b) (completed_request b (at_port port) place f.request f.idles c) x.bus) answer) holds
        ∙ ap (λ (o : Option Packet). exchange (carried_of (rules_of b) (whole_request (rules_of b) f.request (step_of port name f.request f.idles o)) x.bus) answer) there

    is_new : outcome (rules_of b).is_above (request_of (rules_of b) (length x.bus.taken) bytes) x.bus.log ≡ IsNew
    is_new = open_is_new (rules_of b) (smbus_numbers b.manager b.controller b.first) x.bus h bytes a.first a.free

    request_is : request_of (rules_of b) (first_request f.request whole) (message_of whole) ≡ request_of (rules_of b) (length x.bus.taken) bytes
    request_is = λ i. request_of (rules_of b) ((first_is ∙ own) i) (message_is i)

    goes : (place : ℕ) (ps : List Packet) (port : Name → List SentPacket) → ((i : ℕ) → slice_get (b.split bytes) (place + i) ≡ slice_get ps i) → CompletesMessage whole (port name) (sent_in f.request f.idles ps)
        → ((p : Packet) → slice_get ps 0 ≡ Some p → (t : SentPacket) → In t (waiting (port name) (one p)) → t.request ≡ f.request)
        → HasCarried (packets b) (each_place event place ps) (at_port port) (record { bytes = bytes; reply = answer }) (λ t. JustAnswered (rules_of b) (smbus_numbers b.manager b.controller b.first) (lit≤ tt) t.bus answer)
    goes place [] port all completes waits = absurd completes
    goes place (p ∷ []) port all completes waits =
        let zero_place : place + 0 ≡ place = omega arith in
        let there : slice_get (b.split bytes) place ≡ Some p = ap (slice_get (b.split bytes)) (sym zero_place) ∙ all 0 in
        let carries : (packets b).carries (at_port port) (event place) ≡ Some (record { bytes = bytes; reply = answer }) =
        completes_so place p port there
        ∙ ap (λ (r : Step × List SentPacket). exchange (carried_of (rules_of b) (whole_request (rules_of b) f.request r.0) x.bus) answer) completes
        ∙ ap (λ (r : Heard). exchange (carried_of (rules_of b) (Some r) x.bus) answer) request_is
        ∙ ap (λ (o : Outcome). exchange (new_bytes o bytes) answer) is_new in
        let bus_is : whole_comes (rules_of b) answer f.request (Whole whole) x.bus ≡ heard (rules_of b) (smbus_numbers b.manager b.controller b.first) x.bus (length x.bus.taken) (record { request = request_of (rules_of b) (length x.bus.taken) bytes; reply = answer }) IsNew =
        ap (λ (r : Heard). hears (rules_of b) f.request (record { request = r; reply = answer }) x.bus) request_is
        ∙ ap (λ (m : ℕ). hears (rules_of b) m (record { request = request_of (rules_of b) (length x.bus.taken) bytes; reply = answer }) x.bus) own
        ∙ ap (heard (rules_of b) (smbus_numbers b.manager b.controller b.first) x.bus (length x.bus.taken) (record { request = request_of (rules_of b) (length x.bus.taken) bytes; reply = answer })) is_new in
        let bus_after : (packet_happens b (at_port port) (event place)).bus ≡ whole_comes (rules_of b) answer f.request (Whole whole) x.bus =
        ap (λ (y : BusEnds). y.bus) (comes_so place p port there) ∙ ap (λ (r : Step × List SentPacket). whole_comes (rules_of b) answer f.request r.0 x.bus) completes in (
          tt,
          refl,
          honest_so place p port there (waits p refl),
          carries,
          subst (λ (s : BusState). JustAnswered (rules_of b) (smbus_numbers b.manager b.controller b.first) (lit≤ tt) s answer) (sym (bus_after ∙ bus_is))
              (answered_after (rules_of b) (smbus_numbers b.manager b.controller b.first) (lit≤ tt) x.bus bytes answer a),
        )
    goes place (p ∷ q ∷ ps) port all completes waits =
        let zero_place : place + 0 ≡ place = omega arith in
        let there : slice_get (b.split bytes) place ≡ Some p = ap (slice_get (b.split bytes)) (sym zero_place) ∙ all 0 in
        let r = takes (port name) (one p) in
        let next = set_at name r.1 port in
        let stays : packet_happens b (at_port port) (event place) ≡ at_port next =
        comes_so place p port there ∙ ap (λ (s : Step). record { bus = whole_comes (rules_of b) answer f.request s x.bus; port = next; manager = x.manager }) completes.0 in
        let none : (packets b).carries (at_port port) (event place) ≡ None =
        completes_so place p port there ∙ ap (λ (s : Step). exchange (carried_of (rules_of b) (whole_request (rules_of b) f.request s) x.bus) answer) completes.0 in
        let here : next name ≡ r.1 = set_here name r.1 port in
        let waiting_now : IsWaits r.0 = subst IsWaits (sym completes.0) tt in
        let mine : (t : SentPacket) → In t r.1 → t.request ≡ f.request = (λ t is. elim (takes_waits (port name) (one p) waiting_now t is) [ inl old ↦ waits p refl t old | inr e ↦ ap (λ (s : SentPacket). s.request) (sym e) ]) in
        let rest = goes (suc place) (q ∷ ps) next
        (λ i. let far : suc place + i ≡ place + suc i = omega arith in ap (slice_get (b.split bytes)) far ∙ all (suc i))
        (subst (λ (l : List SentPacket). CompletesMessage whole l (sent_in f.request f.idles (q ∷ ps))) (sym here) completes.1)
        (λ u is t inside. mine t (subst (In t) here (in_waiting (next name) (one u) t inside))) in (
          tt,
          refl,
          honest_so place p port there (waits p refl),
          none,
          subst (λ (y : BusEnds). HasCarried (packets b) (each_place event (suc place) (q ∷ ps)) y (record { bytes = bytes; reply = answer }) (λ t. JustAnswered (rules_of b) (smbus_numbers b.manager b.controller b.first) (lit≤ tt) t.bus answer)) (sym stays) rest,
        )

  -- ---- at the manager

  module _ (number : ℕ) (answer : List ℕ) (h : Holds (rules_of b) x.bus) (own : f.request ≡ length x.bus.taken) (holds : f.content ≡ Reply number (Some answer)) (awaited : is_awaited b f.request x.bus ≡ true)
      (free : is_busy b.manager x.bus.log ≡ false) (takes_it : taken_content (rules_of b) (Reply number (Some answer)) x.bus ≡ Some answer) (whole : List SentPacket) (message_is : message_of whole ≡ answer) where
    abbrev at_manager : (Name → List SentPacket) → BusEnds
    at_manager manager = record { bus = x.bus; port = x.port; manager = manager }

    abbrev own_name : Name
    own_name = reply_name b f.request

    abbrev returned : ℕ → PacketEvent
    returned place = PacketReachesManager which place

    abbrev after_return : (Name → List SentPacket) → Step × List SentPacket → BusEnds
    after_return manager r = record { bus = whole_returns (rules_of b) number r.0 x.bus; port = x.port; manager = set_at own_name r.1 manager }

    returns_so : (place : ℕ) (p : Packet) (manager : Name → List SentPacket) → slice_get (b.split answer) place ≡ Some p → packet_happens b (at_manager manager) (returned place) ≡ after_return manager (takes (manager own_name) (one p))
    returns_so place p manager there =
        ap (λ (o : Option Frame). packet_at_manager b place o (at_manager manager)) at
        ∙ ap (λ (c : Content). packet_returns b place f.request f.idles c (at_manager manager)) holds
        ∙ cond-true (is_awaited b f.request x.bus) (manager_takes b number f.request f.idles (slice_get (b.split answer) place) (at_manager manager)) (at_manager manager) awaited
        ∙ ap (λ (o : Option Packet). manager_takes b number f.request f.idles o (at_manager manager)) there

    live_so : (manager : Name → List SentPacket) (place : ℕ) → (packets b).IsHonest (at_manager manager) (returned place)
    live_so manager place = subst (λ (o : Option Frame). IfSome o (IsLive (rules_of b) x.bus)) (sym at) live

    brings_so : (place : ℕ) (p : Packet) (manager : Name → List SentPacket) → slice_get (b.split answer) place ≡ Some p
        → (packets b).brings (at_manager manager) (returned place) ≡ taken_of (rules_of b) (whole_reply number (takes (manager own_name) (one p)).0) x.bus
    brings_so place p manager there =
        ap (λ (o : Option Frame). brought_at b (at_manager manager) place o) at
        ∙ ap (λ (c : Content). taken_of (rules_of b) (completed_reply b (at_manager manager) place f.request f.idles c) x.bus) holds
        ∙ ap (λ (o : Option Content). taken_of (rules_of b) o x.bus) (cond-true (is_awaited b f.request x.bus) (whole_reply number (step_of manager own_name f.request f.idles (slice_get (b.split answer) place))) None awaited)
        ∙ ap (λ (o : Option Packet). taken_of (rules_of b) (whole_reply number (step_of manager own_name f.request f.idles o)) x.bus) there

    returns : (place : ℕ) (ps : List Packet) (manager : Name → List SentPacket) → ((i : ℕ) → slice_get (b.split answer) (place + i) ≡ slice_get ps i) → CompletesMessage whole (manager own_name) (sent_in f.request f.idles ps)
        → HasBrought (packets b) (each_place returned place ps) (at_manager manager) answer (λ t. is_busy b.manager t.bus.log ≡ false)
    returns place [] manager all completes = absurd completes
    returns place (p ∷ []) manager all completes =
        let zero_place : place + 0 ≡ place = omega arith in
        let there : slice_get (b.split answer) place ≡ Some p = ap (slice_get (b.split answer)) (sym zero_place) ∙ all 0 in
        let whole_is : taken_content (rules_of b) (Reply number (Some (message_of whole))) x.bus ≡ Some answer = ap (λ (l : List ℕ). taken_content (rules_of b) (Reply number (Some l)) x.bus) message_is ∙ takes_it in
        let brings : (packets b).brings (at_manager manager) (returned place) ≡ Some answer =
        brings_so place p manager there ∙ ap (λ (r : Step × List SentPacket). taken_of (rules_of b) (whole_reply number r.0) x.bus) completes ∙ whole_is in
        let bus_after : (packet_happens b (at_manager manager) (returned place)).bus ≡ takes_if (Some answer) x.bus =
        ap (λ (y : BusEnds). y.bus) (returns_so place p manager there) ∙ ap (λ (r : Step × List SentPacket). whole_returns (rules_of b) number r.0 x.bus) completes ∙ ap (λ (o : Option (List ℕ)). takes_if o x.bus) whole_is in
        (tt, refl, live_so manager place, brings, subst (λ (s : BusState). is_busy b.manager s.log ≡ false) (sym bus_after) free)
    returns place (p ∷ q ∷ ps) manager all completes =
        let zero_place : place + 0 ≡ place = omega arith in
        let there : slice_get (b.split answer) place ≡ Some p = ap (slice_get (b.split answer)) (sym zero_place) ∙ all 0 in
        let r = takes (manager own_name) (one p) in
        let next = set_at own_name r.1 manager in
        let stays : packet_happens b (at_manager manager) (returned place) ≡ at_manager next =
        returns_so place p manager there ∙ ap (λ (s : Step). record { bus = whole_returns (rules_of b) number s x.bus; port = x.port; manager = next }) completes.0 in
        let none : (packets b).brings (at_manager manager) (returned place) ≡ None =
        brings_so place p manager there ∙ ap (λ (s : Step). taken_of (rules_of b) (whole_reply number s) x.bus) completes.0 in
        let rest = returns (suc place) (q ∷ ps) next
        (λ i. let far : suc place + i ≡ place + suc i = omega arith in ap (slice_get (b.split answer)) far ∙ all (suc i))
        (subst (λ (l : List SentPacket). CompletesMessage whole l (sent_in f.request f.idles (q ∷ ps))) (sym (set_here own_name r.1 manager)) completes.1) in (
          tt,
          refl,
          live_so manager place,
          none,
          subst (λ (y : BusEnds). HasBrought (packets b) (each_place returned (suc place) (q ∷ ps)) y answer (λ t. is_busy b.manager t.bus.log ≡ false)) (sym stays) rest,
        )

-- ---- the line

-- the packets of a cut are of its frame's request, and the first is a start
first_of_cut : (n idles : ℕ) (ps : List Packet) (bytes : List ℕ) → IsCut ps bytes → first_request n (sent_in n idles ps) ≡ n
first_of_cut n idles [] bytes cut = absurd cut.1
first_of_cut n idles (p ∷ ps) bytes cut = refl

starts : (ps : List Packet) (bytes : List ℕ) (p : Packet) → IsCut ps bytes → slice_get ps 0 ≡ Some p → p.first ≡ true
starts [] bytes p cut is = absurd cut.1
starts (q ∷ []) bytes p cut is = ap (λ (r : Packet). r.first) (sym (same_Some q p is)) ∙ cut.1.1
starts (q ∷ r ∷ ps) bytes p cut is = ap (λ (r : Packet). r.first) (sym (same_Some q p is)) ∙ cut.1.1

module _ (b : PacketBus) (cutting : IsCutting b.split) where
  carried_so : (x : BusEnds) (bytes answer : List ℕ) → Holds (rules_of b) x.bus → JustAsked (rules_of b) (smbus_numbers b.manager b.controller b.first) (lit≤ tt) x.bus bytes → IsCut (b.split bytes) bytes
      → HasCarried (packets b) ((by_packets b).to_port x answer) x (record { bytes = bytes; reply = answer }) (λ t. JustAnswered (rules_of b) (smbus_numbers b.manager b.controller b.first) (lit≤ tt) t.bus answer)
  carried_so x bytes answer h a cut =
      let which = newest x.bus in
      let f = a.frame in
      let name = request_name b f.request in
      let made = cut_is_whole f.request f.idles (b.split bytes) bytes (x.port name) cut in
      let ps_are : packets_of_frame b (slice_get x.bus.frames which) ≡ b.split bytes = ap (packets_of_frame b) a.at ∙ ap (packets_of_content b) a.holds in
      subst (λ (ps : List Packet). HasCarried (packets b) (each_place (λ place. PacketReachesPort which place answer) 0 ps) x (record { bytes = bytes; reply = answer })
      (λ t. JustAnswered (rules_of b) (smbus_numbers b.manager b.controller b.first) (lit≤ tt) t.bus answer)) (sym ps_are)
      (goes b cutting x which f a.at a.live bytes answer h a a.own a.holds (sent_in f.request f.idles (b.split bytes)) (first_of_cut f.request f.idles (b.split bytes) bytes cut) made.1 0 (b.split bytes) x.port
      (λ i. let none : 0 + i ≡ i = omega arith in ap (slice_get (b.split bytes)) none) made.0
      (λ p is t inside. absurd (subst (λ (c : Bool). In t (if c then [] else x.port name)) (starts (b.split bytes) bytes p cut is) inside)))

  brought_so : (x : BusEnds) (answer : List ℕ) → Holds (rules_of b) x.bus → JustAnswered (rules_of b) (smbus_numbers b.manager b.controller b.first) (lit≤ tt) x.bus answer → IsCut (b.split answer) answer
      → HasBrought (packets b) ((by_packets b).to_manager x) x answer (λ t. is_busy b.manager t.bus.log ≡ false)
  brought_so x answer h a cut =
      let which = newest x.bus in
      let f = a.frame in
      let name = reply_name b f.request in
      let made = cut_is_whole f.request f.idles (b.split answer) answer (x.manager name) cut in
      let ps_are : packets_of_frame b (slice_get x.bus.frames which) ≡ b.split answer = ap (packets_of_frame b) a.at ∙ ap (packets_of_content b) a.holds in
      let awaited : is_awaited b f.request x.bus ≡ true = and_from _ _ a.is_now (eq-eqb (tag_of b.first f.request) (tag_of b.first (length x.bus.taken)) (ap (tag_of b.first) a.own)) in
      let takes_it : taken_content (rules_of b) (Reply a.number (Some answer)) x.bus ≡ Some answer =
      ap (λ (c : Content). taken_content (rules_of b) c x.bus) (sym a.holds) ∙ ((goes_through (rules_of b) (smbus_numbers b.manager b.controller b.first) x.bus h).answered which f a.number answer a.at a.own a.holds a.is_now).1 in
      subst (λ (ps : List Packet). HasBrought (packets b) (each_place (λ place. PacketReachesManager which place) 0 ps) x answer (λ t. is_busy b.manager t.bus.log ≡ false)) (sym ps_are)
      (returns b cutting x which f a.at a.live a.number answer h a.own a.holds awaited a.free takes_it (sent_in f.request f.idles (b.split answer)) made.1 0 (b.split answer) x.manager
      (λ i. let none : 0 + i ≡ i = omega arith in ap (slice_get (b.split answer)) none) made.0)

  pub packets_lose_nothing : LosesNothing (packets b) (by_packets b) (packets_are_line b cutting)
  unfolding packets_are_line
  packets_lose_nothing = record {
    Asked = λ x bytes. JustAsked (rules_of b) (smbus_numbers b.manager b.controller b.first) (lit≤ tt) x.bus bytes;
    Answered = λ x answer. JustAnswered (rules_of b) (smbus_numbers b.manager b.controller b.first) (lit≤ tt) x.bus answer;
    begun = λ x bytes h closed free can. just_begun (rules_of b) (smbus_numbers b.manager b.controller b.first) (lit≤ tt) x.bus bytes h.1.holds closed free;
    carried = λ x bytes answer h a can fits. carried_so x bytes answer h.1.holds a can;
    brought = λ x answer h a can. brought_so x answer h.1.holds a can;
  }
