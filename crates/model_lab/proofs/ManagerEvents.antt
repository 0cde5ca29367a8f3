-- What comes to the lab's manager brings what the model's event brings.
use Rattle.std.proofs.Common.{◌≡◌, ℕ, ◌+◌, ◌%◌, ◌<◌, Bool, true, false, cond, not, ◌&&◌, List, [], ◌∷◌, ◌++◌, length, Option, Some, None, refl, sym, ◌∙◌, ap, subst, arith}
use Rattle.std.specs.Prelude.{◌==◌, nat_le, slice_get, IfSome}
use Rattle.std.proofs.lemmas.Bool.{eq-eqb, eqb-true}
use Rattle.std.proofs.lemmas.Bool.Decides.{nat_tests}
use Rattle.std.proofs.lemmas.Option.{slice_get_within}
use Rattle.two_wire.specs.declared.Bus.{Bus}
use Rattle.two_wire.specs.declared.Bus.TheVariants.{Ipmb, Smbus}
use Rattle.ipmb_frame.specs.declared.message.Response.{Response}
use Rattle.mctp_net.specs.declared.packet.Packet.{Packet}
use Rattle.mctp_net.specs.declared.packet.Name.{Name}
use Rattle.mctp_net.specs.declared.taken.DropCause.{DropCause}
use Rattle.mctp_net.specs.declared.taken.DropCause.TheVariants.{NotOurs, NoStart, TooLong, OutOfSequence, UnitSize, NoSlot}
use Rattle.mctp_net.specs.Grammar.{bit}
use Rattle.mctp_net.specs.Cut.{Piece, piece}
use Rattle.mctp_net.specs.Assembly.{Assemblies, name_of, is_open as is_open_list, joined_to, open_beside, is_ours, fails, drop_cause, with_under, after, after_where, ended, kept_with, message_of}
use Rattle.mctp_net.specs.Sound.{FitsAssembly}
use Rattle.mctp_net.proofs.Causes.{passes_back}
use Rattle.mctp_net.proofs.Names.{name-self}
use Rattle.model_bus.specs.Numbering.{Rules, tag_of}
use Rattle.model_bus.specs.BusState.{BusState, Frame, Content, Ask, Reply, ReachesManager, is_open, taken_content, taken_now}
use Rattle.model_bus.specs.Bytes.{answers}
use Rattle.model_bus.specs.Answering.{taken_by_test, TestsAgree}
use Rattle.model_bus.specs.Assembly.{Name as ModelName, SentPacket, Step, takes, waiting, message_of as model_message_of}
use Rattle.model_bus.specs.PacketBus.{PacketBus, rules_of, reply_name, is_awaited, set_at, BusEnds, PacketEvent, PacketReachesManager, whole_returns, manager_takes, packet_returns, packet_at_manager, packet_happens}
use Rattle.model_bus.specs.PacketEffect.{step_of, whole_reply, completed_reply, taken_of, ManagerEffect, FrameAtManager, HasPacketEffect}
use Rattle.model_bus.specs.Packet.{Packet as ModelPacket}
use Rattle.model_bus.proofs.Answering.{busy_fails}
use Rattle.model_undo.specs.Machine.{Part as TaskPart, reply_of}
use Rattle.model_undo.specs.Line.{brings_whole, brings_packets, brought_at}
use Rattle.bmc_core.specs.Wires.{answered_from}
use Rattle.bmc_core.specs.Seen.{seen, WaitsAlike, AgreesWithJoin, model_after}
use Rattle.bmc_core.proofs.PacketSteps.{first_of, takes-agrees}
use Rattle.bmc_core.proofs.Waiting.{waits-alike}
use Rattle.bmc_core.proofs.WholeBytes.{whole-bytes}
use Rattle.bmc_core.specs.Bytes.{response_bytes}
use Rattle.model_lab.specs.ManagerSteps.{Plans, ManagerState, is_answer, is_part, rests, taken_or, heeded_on, open_count, open_bytes, tested, hears_reply, hears_response, ends_reply, joins, joins_for, hears_packet}
use Rattle.bmc_core.specs.PortEvents.{name_in}
use Rattle.model_lab.specs.ManagerEvents.{SaysBusy, HoldsReply, HoldsPart, name_awaited, IsRepliesResponse, IsRepliesPart, takes_if, IsOpenOn, IsManagerOf, BringsResponse, BringsPart, RepliesAreBrought}

-- ---- the test

module _ (P : Plans) (m : ManagerState P) (open_part : TaskPart P.words) (on : Bus) where
  abbrev opened : List ℕ
  opened = open_bytes P on m open_part

  -- a reply is taken where it passes
  by_test : (reply : List ℕ) (t : Bool) → cond t (taken_or P m (reply_of P.words (answered_from on reply) m.machine)) (rests P m)
      ≡ takes_if P on (let none : Option (List ℕ) = None in cond t (Some reply) none) m
  by_test reply true = refl
  by_test reply false = refl

  -- while the request is heeded, what is heard is what the test takes
  heard-by_test : (reply : List ℕ) → heeded_on P on m.machine.stage ≡ Some open_part
      → hears_reply P on reply m ≡ takes_if P on (let none : Option (List ℕ) = None in cond (answers on opened reply) (Some reply) none) m
  heard-by_test reply heeded = ap (tested P on reply m) heeded ∙ by_test reply (answers on opened reply)

  -- no busy reply is taken
  heard-busy : (reply : List ℕ) → heeded_on P on m.machine.stage ≡ Some open_part → SaysBusy on reply → hears_reply P on reply m ≡ rests P m
  heard-busy reply heeded busy =
      heard-by_test reply heeded
      ∙ ap (λ (t : Bool). takes_if P on (let none : Option (List ℕ) = None in cond t (Some reply) none) m) (busy_fails on busy.0 opened busy.1 reply busy.2 busy.3)

-- ---- IPMB

module _ (P : Plans) (m : ManagerState P) (open_part : TaskPart P.words) (b : Rules) (s : BusState) (which : ℕ) (r : Response) (agree : TestsAgree Ipmb b s)
    (at : IsOpenOn P Ipmb m open_part s) (is : IsRepliesResponse m.names b s which r) where
  heard-response : hears_response P r m ≡ hears_reply P Ipmb (response_bytes r) m
  unfolding hears_response
  heard-response = ap (λ (t : Bool). cond t (hears_reply P Ipmb (response_bytes r) m) (rests P m)) is.answers

  taken-is : brings_whole b s (ReachesManager which) ≡ taken_by_test Ipmb (open_bytes P Ipmb m open_part) is.frame.content
  taken-is = ap (λ (o : Option Frame). taken_now b o s) is.sent ∙ agree which is.frame (open_bytes P Ipmb m open_part) is.sent is.live at.opened

  by_content : (c : Content) → HoldsReply Ipmb (response_bytes r) c → hears_reply P Ipmb (response_bytes r) m ≡ takes_if P Ipmb (taken_by_test Ipmb (open_bytes P Ipmb m open_part) c) m
  by_content (Ask asked) held = absurd held
  by_content (Reply number None) held = heard-busy P m open_part Ipmb (response_bytes r) at.heeded held
  by_content (Reply number (Some reply)) held = ap (λ (bytes : List ℕ). hears_reply P Ipmb bytes m) held ∙ heard-by_test P m open_part Ipmb reply at.heeded

  brings-response : BringsResponse P m b s which r
  brings-response = heard-response ∙ by_content is.frame.content is.held ∙ ap (λ (o : Option (List ℕ)). takes_if P Ipmb o m) (sym taken-is)

-- ---- SMBus: what else is open

-- beside the packet's name as much is open after it as before
beside-put : (n : Name) (ps : List Piece) (a : Assemblies) → open_beside n (with_under n ps a) ≡ open_beside n a
beside-put n ps a =
    let here : bit (is_open_list ((with_under n ps a).under n)) ≡ bit (is_open_list ps) = ap (λ t. bit (is_open_list (cond t ps (a.under n)))) (name-self n) in
    let sum : (with_under n ps a).open_count ≡ open_beside n a + bit (is_open_list ps) = refl in
    omega (arith, here, sum)

beside-after : (own : ℕ) (a : Assemblies) (p : Packet) → open_beside (name_of p.envelope) (after own a p) ≡ open_beside (name_of p.envelope) a
beside-after own a p = by_cause (drop_cause own a p)
  where
    shut : open_beside (name_of p.envelope) (with_under (name_of p.envelope) [] a) ≡ open_beside (name_of p.envelope) a
    shut = beside-put (name_of p.envelope) [] a

    by_end : (t : Bool) → open_beside (name_of p.envelope) (cond t (ended p a) (kept_with p a)) ≡ open_beside (name_of p.envelope) a
    by_end true = shut
    by_end false = beside-put (name_of p.envelope) (joined_to p a ++ piece p ∷ []) a

    by_cause : (cause : Option DropCause) → open_beside (name_of p.envelope) (after_where cause p a) ≡ open_beside (name_of p.envelope) a
    by_cause (Some NotOurs) = refl
    by_cause (Some NoStart) = refl
    by_cause (Some TooLong) = shut
    by_cause (Some OutOfSequence) = shut
    by_cause (Some UnitSize) = shut
    by_cause (Some NoSlot) = shut
    by_cause None = by_end p.end

-- a packet that ends a message leaves open what is open beside it
ended-count : (own : ℕ) (a : Assemblies) (p : Packet) → drop_cause own a p ≡ None → p.end ≡ true → (after own a p).open_count ≡ open_beside (name_of p.envelope) a
ended-count own a p none ends =
    let kept : after own a p ≡ ended p a = ap (λ (c : Option DropCause). after_where c p a) none ∙ ap (λ t. cond t (ended p a) (kept_with p a)) ends in
    ap (λ (x : Assemblies). x.open_count) kept ∙ (let sum : (ended p a).open_count ≡ open_beside (name_of p.envelope) a + 0 = refl in omega (arith, sum))

-- which test holds of a packet that is dropped for the first or the last cause
found_not_ours : (a b c d e f : Bool) → first_of a b c d e f ≡ Some NotOurs → a ≡ true
found_not_ours true b c d e f h = refl
found_not_ours false true c d e f h = absurd cc
found_not_ours false false true d e f h = absurd cc
found_not_ours false false false true e f h = absurd cc
found_not_ours false false false false true f h = absurd cc
found_not_ours false false false false false true h = absurd cc
found_not_ours false false false false false false h = absurd cc

found_no_slot : (a b c d e f : Bool) → first_of a b c d e f ≡ Some NoSlot → f ≡ true
found_no_slot true b c d e f h = absurd cc
found_no_slot false true c d e f h = absurd cc
found_no_slot false false true d e f h = absurd cc
found_no_slot false false false true e f h = absurd cc
found_no_slot false false false false true f h = absurd cc
found_no_slot false false false false false true h = refl
found_no_slot false false false false false false h = absurd cc

no_not : (t : Bool) → not t ≡ true → t ≡ true → ⊥
no_not true h e = absurd cc
no_not false h e = absurd cc

last_of : (a b c : Bool) → (a && b && c) ≡ true → c ≡ true
last_of true true c h = h
last_of true false c h = absurd cc
last_of false b c h = absurd cc

ours-not : (own : ℕ) (a : Assemblies) (p : Packet) → is_ours own p ≡ true → drop_cause own a p ≡ Some NotOurs → ⊥
ours-not own a p ours h = no_not (is_ours own p) (found_not_ours (fails own a p NotOurs) (fails own a p NoStart) (fails own a p TooLong) (fails own a p OutOfSequence) (fails own a p UnitSize) (fails own a p NoSlot) h) ours

slot-is : (own : ℕ) (a : Assemblies) (p : Packet) → open_beside (name_of p.envelope) a ≡ 0 → drop_cause own a p ≡ Some NoSlot → ⊥
slot-is own a p none h =
    let full : nat_le 8 (open_beside (name_of p.envelope) a) ≡ true =
    last_of p.start (not p.end) (nat_le 8 (open_beside (name_of p.envelope) a)) (found_no_slot (fails own a p NotOurs) (fails own a p NoStart) (fails own a p TooLong) (fails own a p OutOfSequence) (fails own a p UnitSize) (fails own a p NoSlot) h) in
    let no : nat_le 8 0 ≡ true = subst (λ n. nat_le 8 n ≡ true) none full in
    absurd cc

-- ---- SMBus: a packet

-- what the test on a packet tells
part_fields : (u v w o t : Bool) → ((u && v) && (w && (not o && t))) ≡ true → (w ≡ true) × (o ≡ false) × (t ≡ true)
part_fields true true true false true h = (refl, refl, refl)
part_fields true true true false false h = absurd cc
part_fields true true true true t h = absurd cc
part_fields true true false o t h = absurd cc
part_fields true false w o t h = absurd cc
part_fields false v w o t h = absurd cc

-- a packet's tests, where all but the tag's hold
tag_alone : (u v w o t : Bool) → u ≡ true → v ≡ true → w ≡ true → o ≡ false → ((u && v) && (w && (not o && t))) ≡ t
tag_alone u v w o t a b c d = rw (a, b, c, d) refl

module _ (P : Plans) (m : ManagerState P) (open_part : TaskPart P.words) (b : PacketBus) (x : BusEnds) (which place : ℕ) (p : Packet) (agree : TestsAgree Smbus (rules_of b) x.bus)
    (effect : HasPacketEffect b x (PacketReachesManager which place)) (at : IsOpenOn P Smbus m open_part x.bus) (is : IsManagerOf P m b x) (r : IsRepliesPart m.names b x which place p) where
  abbrev event : PacketEvent
  event = PacketReachesManager which place

  abbrev n : ℕ
  n = r.frame.request

  abbrev count : ℕ
  count = open_count P Smbus m

  abbrev cause : Option DropCause
  cause = drop_cause m.names.own_eid m.joined p

  abbrev kept : Assemblies
  kept = after m.names.own_eid m.joined p

  abbrev next : ManagerState P
  next = record m { joined = kept }

  -- the packet is looked at in the lab where it is in the model
  is-open : is_open x.bus ≡ true
  is-open = let within : length x.bus.taken < length x.bus.begun = slice_get_within x.bus.begun (length x.bus.taken) (open_bytes P Smbus m open_part) at.opened in grind (arith, nat_tests)

  awaited-is : is_awaited b n x.bus ≡ is_part m.names count p
  awaited-is =
      ap (λ (t : Bool). t && (tag_of b.first n == tag_of b.first (length x.bus.taken))) is-open
      ∙ ap (λ (c : ℕ). tag_of b.first n == c % 8) (sym is.counted)
      ∙ ap (λ (t : ℕ). t == count % 8) (sym (ap (λ (name : ModelName). name.tag) r.named))
      ∙ sym (tag_alone (p.envelope.destination == m.names.own_wire) (p.envelope.source == m.names.peer_wire) (p.envelope.source_eid == m.names.peer_eid) p.envelope.tag_owner (p.envelope.tag == count % 8)
      (eq-eqb _ _ r.destination) (eq-eqb _ _ r.source) (eq-eqb _ _ (ap (λ (name : ModelName). name.source) r.named ∙ is.controller)) (ap (λ (name : ModelName). name.owner) r.named))

  heard-is : hears_packet P p m ≡ cond (is_part m.names count p) (joins P p m) (rests P m)
  unfolding hears_packet
  heard-is = ap (joins_for P p m) at.heeded

  -- the event, by what the frame holds
  brings-by : (c : Content) → r.frame.content ≡ c → brings_packets b x event ≡ taken_of (rules_of b) (completed_reply b x place n r.frame.idles c) x.bus
  brings-by c e =
      ap (λ (o : Option Frame). brought_at b x place o) r.sent
      ∙ ap (λ (d : Content). taken_of (rules_of b) (completed_reply b x place n r.frame.idles d) x.bus) e

  ends-by : (c : Content) → r.frame.content ≡ c → packet_happens b x event ≡ packet_returns b place n r.frame.idles c x
  ends-by c e = ap (λ (o : Option Frame). packet_at_manager b place o x) r.sent ∙ ap (λ (d : Content). packet_returns b place n r.frame.idles d x) e

  built : (joined : Assemblies) (y : BusEnds) (o : Option (List ℕ)) → packet_happens b x event ≡ y → brings_packets b x event ≡ o → hears_packet P p m ≡ takes_if P Smbus o (record m { joined = joined })
      → WaitsAlike y.manager joined → open_beside (name_awaited m.names count) joined ≡ 0 → IfSome o (λ reply. joined.open_count ≡ 0) → BringsPart P m b x which place p
  built joined y o ends brings deed waits alone none_left = record {
    joined = joined;
    deed = deed ∙ ap (λ (q : Option (List ℕ)). takes_if P Smbus q (record m { joined = joined })) (sym brings);
    waits = subst (λ (z : BusEnds). WaitsAlike z.manager joined) (sym ends) waits;
    alone = alone;
    none_left = subst (λ (q : Option (List ℕ)). IfSome q (λ reply. joined.open_count ≡ 0)) (sym brings) none_left;
  }

  abbrev no_content : Option Content
  no_content = None

  -- a packet that isn't awaited
  unawaited : is_part m.names count p ≡ false → (c : Content) → r.frame.content ≡ c → HoldsPart b place p c → BringsPart P m b x which place p
  unawaited other (Ask asked) e held = absurd held
  unawaited other (Reply number None) e held =
      built m.joined x None
      (ends-by (Reply number None) e ∙ ap (λ (t : Bool). let y : BusEnds = record x { manager = set_at (reply_name b n) [] x.manager } in cond t y x) (awaited-is ∙ other))
      (brings-by (Reply number None) e)
      (heard-is ∙ ap (λ (t : Bool). cond t (joins P p m) (rests P m)) other) is.waits is.alone tt
  unawaited other (Reply number (Some reply)) e held =
      built m.joined x None
      (ends-by (Reply number (Some reply)) e ∙ ap (λ (t : Bool). cond t (manager_takes b number n r.frame.idles (slice_get (b.split reply) place) x) x) (awaited-is ∙ other))
      (brings-by (Reply number (Some reply)) e
      ∙ ap (λ (t : Bool). taken_of (rules_of b) (cond t (whole_reply number (step_of x.manager (reply_name b n) n r.frame.idles (slice_get (b.split reply) place))) no_content) x.bus) (awaited-is ∙ other))
      (heard-is ∙ ap (λ (t : Bool). cond t (joins P p m) (rests P m)) other) is.waits is.alone tt

  -- ---- one that is

  module _ (mine : is_part m.names count p ≡ true) where
    awaited : is_awaited b n x.bus ≡ true
    awaited = awaited-is ∙ mine

    -- the packet's name is the one that is awaited
    named-so : name_of p.envelope ≡ name_awaited m.names count
    named-so =
        let fields = part_fields (p.envelope.destination == m.names.own_wire) (p.envelope.source == m.names.peer_wire) (p.envelope.source_eid == m.names.peer_eid) p.envelope.tag_owner (p.envelope.tag == count % 8) mine in
        λ i. record { source_eid = eqb-true p.envelope.source_eid m.names.peer_eid fields.0 i; tag_owner = fields.1 i; tag = eqb-true p.envelope.tag (count % 8) fields.2 i }

    joined-is : (c : Option DropCause) → cause ≡ c → hears_packet P p m ≡ ends_reply P p c next
    joined-is c e = heard-is ∙ ap (λ (t : Bool). cond t (joins P p m) (rests P m)) mine ∙ ap (λ (d : Option DropCause). ends_reply P p d next) e

    alone-before : open_beside (name_of p.envelope) m.joined ≡ 0
    alone-before = ap (λ (name : Name). open_beside name m.joined) named-so ∙ is.alone

    alone-after : open_beside (name_awaited m.names count) kept ≡ 0
    alone-after = ap (λ (name : Name). open_beside name kept) (sym named-so) ∙ beside-after m.names.own_eid m.joined p ∙ alone-before

    none-open : cause ≡ None → p.end ≡ true → kept.open_count ≡ 0
    none-open none ends = ended-count m.names.own_eid m.joined p none ends ∙ alone-before

    abbrev sent_as : SentPacket
    sent_as = record { request = n; idles = r.frame.idles; packet = seen (piece p) }

    abbrev taken : Step × List SentPacket
    taken = takes (x.manager (name_in p)) sent_as

    abbrev all : List SentPacket
    all = waiting (x.manager (name_in p)) sent_as ++ sent_as ∷ []

    agrees : AgreesWithJoin cause p.end all taken
    agrees = takes-agrees m.names.own_eid m.joined p sent_as (x.manager (name_in p)) refl (is.waits _)

    alike : WaitsAlike (model_after cause (name_in p) sent_as x.manager) kept
    alike = waits-alike m.names.own_eid m.joined p sent_as x.manager refl is.waits

    alike-by : (c : Option DropCause) → cause ≡ c → WaitsAlike (model_after c (name_in p) sent_as x.manager) kept
    alike-by c e = subst (λ (d : Option DropCause). WaitsAlike (model_after d (name_in p) sent_as x.manager) kept) e alike

    -- a packet that says that the port is busy
    busy : (number : ℕ) → r.frame.content ≡ Reply number None → HoldsPart b place p (Reply number None) → BringsPart P m b x which place p
    busy number e held =
        let start : p.start ≡ true = held.0 in
        let ends : p.end ≡ true = held.1 in
        let none_joined : joined_to p m.joined ≡ [] = rw start refl in
        let long : length (joined_to p m.joined) ≡ 0 = ap length none_joined in
        let fits : FitsAssembly m.joined p = record {
          few = omega (arith, long);
          numbered = held.2 ∙ sym long;
          started = start ∙ sym (ap (λ k. k == 0) long);
          full = λ more. absurd (let bad : true ≡ false = sym ends ∙ more in cc);
          slots = λ _ more. absurd (let bad : true ≡ false = sym ends ∙ more in cc);
        } in
        let none : cause ≡ None = passes_back m.names.own_eid m.joined p r.ours fits in
        let body : (message_of kept p).body ≡ p.payload = ap (λ (t : Bool). cond t p.payload kept.made) start in
        let left : taken.1 ≡ [] = by_end p.end ends (subst (λ (d : Option DropCause). AgreesWithJoin d p.end all taken) none agrees) in
        built kept (record x { manager = set_at (reply_name b n) [] x.manager }) None
        (ends-by (Reply number None) e ∙ ap (λ (t : Bool). let y : BusEnds = record x { manager = set_at (reply_name b n) [] x.manager } in cond t y x) awaited)
        (brings-by (Reply number None) e)
        (joined-is None none
        ∙ ap (λ (t : Bool). cond t (hears_reply P Smbus (message_of kept p).body next) (rests P next)) ends
        ∙ ap (λ (bytes : List ℕ). hears_reply P Smbus bytes next) body
        ∙ heard-busy P next open_part Smbus p.payload at.heeded held.3)
        (subst (λ (name : ModelName). WaitsAlike (set_at name [] x.manager) kept) r.named (subst (λ (ss : List SentPacket). WaitsAlike (set_at (name_in p) ss x.manager) kept) left (alike-by None none)))
        alone-after tt
      where
        by_end : (t : Bool) → t ≡ true → AgreesWithJoin None t all taken → taken.1 ≡ []
        by_end true e h = ap (λ (q : Step × List SentPacket). q.1) h
        by_end false e h = absurd cc

    -- a packet of a reply
    module _ (number : ℕ) (reply : List ℕ) (held_is : r.frame.content ≡ Reply number (Some reply)) (part : slice_get (b.split reply) place ≡ Some (seen (piece p))) where
      abbrev content : Content
      content = Reply number (Some reply)

      -- what it completes, and both ends after it
      abbrev complete : ModelName → Option ModelPacket → Option Content
      complete name o = whole_reply number (step_of x.manager name n r.frame.idles o)

      abbrev taken_ends : BusEnds
      taken_ends = record x { bus = whole_returns (rules_of b) number taken.0 x.bus; manager = set_at (name_in p) taken.1 x.manager }

      ends-are : packet_happens b x event ≡ taken_ends
      ends-are =
          ends-by content held_is
          ∙ ap (λ (t : Bool). cond t (manager_takes b number n r.frame.idles (slice_get (b.split reply) place) x) x) awaited
          ∙ ap (λ (o : Option ModelPacket). manager_takes b number n r.frame.idles o x) part
          ∙ ap (λ (name : ModelName).
          let q = takes (x.manager name) sent_as in
          let y : BusEnds = record x { bus = whole_returns (rules_of b) number q.0 x.bus; manager = set_at name q.1 x.manager } in y) (sym r.named)

      brings-are : brings_packets b x event ≡ taken_of (rules_of b) (whole_reply number taken.0) x.bus
      brings-are =
          brings-by content held_is
          ∙ ap (λ (t : Bool). taken_of (rules_of b) (cond t (complete (reply_name b n) (slice_get (b.split reply) place)) no_content) x.bus) awaited
          ∙ ap (λ (o : Option ModelPacket). taken_of (rules_of b) (complete (reply_name b n) o) x.bus) part
          ∙ ap (λ (name : ModelName). taken_of (rules_of b) (whole_reply number (takes (x.manager name) sent_as).0) x.bus) (sym r.named)

      -- what is whole is what was sent
      abbrev IsSent : Option Content → Type 0
      IsSent o = IfSome o (λ c. c ≡ content)

      as-sent : IsSent (whole_reply number taken.0)
      as-sent =
          let new = (packet_happens b x event).bus in
          let at_frame : ManagerEffect (rules_of b) r.frame.content (completed_reply b x place n r.frame.idles r.frame.content) x.bus new =
          subst (λ (o : Option Frame). FrameAtManager b x place new o) r.sent effect in
          let of_content : IsSent (completed_reply b x place n r.frame.idles content) =
          subst (λ (c : Content). IfSome (completed_reply b x place n r.frame.idles c) (λ w. w ≡ c)) held_is at_frame.as_sent in
          let of_awaited : IsSent (complete (reply_name b n) (slice_get (b.split reply) place)) =
          subst (λ (t : Bool). IsSent (cond t (complete (reply_name b n) (slice_get (b.split reply) place)) no_content)) awaited of_content in
          let of_part : IsSent (complete (reply_name b n) (Some (seen (piece p)))) = subst (λ (o : Option ModelPacket). IsSent (complete (reply_name b n) o)) part of_awaited in
          subst (λ (name : ModelName). IsSent (whole_reply number (takes (x.manager name) sent_as).0)) (sym r.named) of_part

      -- the manager's test takes what the model takes
      test-is : taken_content (rules_of b) content x.bus ≡ taken_by_test Smbus (open_bytes P Smbus m open_part) content
      test-is =
          subst (λ (c : Content). taken_content (rules_of b) c x.bus ≡ taken_by_test Smbus (open_bytes P Smbus m open_part) c) held_is
          (agree which r.frame (open_bytes P Smbus m open_part) r.sent r.live at.opened)

      abbrev brought : Step × List SentPacket → Option (List ℕ)
      brought q = taken_of (rules_of b) (whole_reply number q.0) x.bus

      -- nothing is whole
      rested : (c : Option DropCause) → cause ≡ c → ends_reply P p c next ≡ rests P next → brought taken ≡ None → WaitsAlike (set_at (name_in p) taken.1 x.manager) kept → BringsPart P m b x which place p
      rested c e lab none waits = built kept taken_ends None ends-are (brings-are ∙ none) (joined-is c e ∙ lab) waits alone-after tt

      ends_part : (t : Bool) → p.end ≡ t → cause ≡ None → AgreesWithJoin None t all taken → BringsPart P m b x which place p
      ends_part true ends none h =
          let whole_is : Reply number (Some (model_message_of all)) ≡ content = subst (λ (q : Step × List SentPacket). IsSent (whole_reply number q.0)) h as-sent in
          let bytes_are : model_message_of all ≡ reply = cc in
          let body : (message_of kept p).body ≡ reply = sym (whole-bytes m.names.own_eid m.joined p sent_as (x.manager (name_in p)) refl (is.waits _) none ends) ∙ bytes_are in
          let test : Option (List ℕ) = (let none_taken : Option (List ℕ) = None in cond (answers Smbus (open_bytes P Smbus m open_part) reply) (Some reply) none_taken) in
          built kept taken_ends test ends-are
          (brings-are ∙ ap brought h ∙ ap (λ (c : Content). taken_content (rules_of b) c x.bus) whole_is ∙ test-is)
          (joined-is None none
          ∙ ap (λ (t : Bool). cond t (hears_reply P Smbus (message_of kept p).body next) (rests P next)) ends
          ∙ ap (λ (bytes : List ℕ). hears_reply P Smbus bytes next) body
          ∙ heard-by_test P next open_part Smbus reply at.heeded)
          (alike-by None none) alone-after (for_any test (none-open none ends))
        where
          for_any : {A : Type 0} (o : Option (List ℕ)) → A → IfSome o (λ q. A)
          for_any None a = tt
          for_any (Some q) a = a
      ends_part false more none h =
          rested None none (ap (λ (t : Bool). cond t (hears_reply P Smbus (message_of kept p).body next) (rests P next)) more) (ap brought h) (alike-by None none)

      by_cause : (c : Option DropCause) → cause ≡ c → AgreesWithJoin c p.end all taken → BringsPart P m b x which place p
      by_cause (Some NotOurs) e h = absurd (ours-not m.names.own_eid m.joined p r.ours e)
      by_cause (Some NoSlot) e h = absurd (slot-is m.names.own_eid m.joined p alone-before e)
      by_cause (Some NoStart) e h = rested (Some NoStart) e refl (ap brought h) (alike-by (Some NoStart) e)
      by_cause (Some TooLong) e h = rested (Some TooLong) e refl (ap brought h) (alike-by (Some TooLong) e)
      by_cause (Some OutOfSequence) e h = rested (Some OutOfSequence) e refl (ap brought h) (alike-by (Some OutOfSequence) e)
      by_cause (Some UnitSize) e h = rested (Some UnitSize) e refl (ap brought h) (alike-by (Some UnitSize) e)
      by_cause None e h = ends_part p.end refl e h

      of_reply : BringsPart P m b x which place p
      of_reply = by_cause cause refl agrees

    by_held : (c : Content) → r.frame.content ≡ c → HoldsPart b place p c → BringsPart P m b x which place p
    by_held (Ask asked) e held = absurd held
    by_held (Reply number None) e held = busy number e held
    by_held (Reply number (Some reply)) e held = of_reply number reply e held

  brings-part : BringsPart P m b x which place p
  brings-part = by_awaited (is_part m.names count p) refl
    where
      by_awaited : (t : Bool) → is_part m.names count p ≡ t → BringsPart P m b x which place p
      by_awaited true mine = by_held mine r.frame.content refl r.held
      by_awaited false other = unawaited other r.frame.content refl r.held

-- ---- while nothing is heeded

unheeded-response : (P : Plans) (m : ManagerState P) (r : Response) → heeded_on P Ipmb m.machine.stage ≡ None → hears_response P r m ≡ rests P m
unfolding hears_response
unheeded-response P m r none = ap (λ (o : Option (TaskPart P.words)). cond (is_answer m.names r) (tested P Ipmb (response_bytes r) m o) (rests P m)) none ∙ either (is_answer m.names r)
  where
    either : (t : Bool) → cond t (rests P m) (rests P m) ≡ rests P m
    either true = refl
    either false = refl

unheeded-part : (P : Plans) (m : ManagerState P) (p : Packet) → heeded_on P Smbus m.machine.stage ≡ None → hears_packet P p m ≡ rests P m
unfolding hears_packet
unheeded-part P m p none = ap (joins_for P p m) none

pub replies_are_brought : (P : Plans) → RepliesAreBrought P
replies_are_brought P = record {
  responses = λ m open_part b s which r agree at is. brings-response P m open_part b s which r agree at is;
  parts = λ m open_part b x which place p agree effect at is r. brings-part P m open_part b x which place p agree effect at is r;
  unheeded_response = unheeded-response P;
  unheeded_part = unheeded-part P;
}
