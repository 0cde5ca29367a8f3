-- What comes to the lab's port is an event of the model.
use Rattle.std.proofs.Common.{◌≡◌, ℕ, ◌+◌, ◌*◌, ◌<◌, ◌≤◌, Bool, true, false, cond, List, [], ◌∷◌, ◌++◌, length, Option, Some, None, refl, sym, ◌∙◌, ap, subst, arith, length-append}
use Rattle.std.specs.Prelude.{IfSome}
use Rattle.std.proofs.lemmas.Grind.{flat_map-append}
use Rattle.std.proofs.lemmas.List.{append-nil}
use Rattle.ipmb_frame.specs.declared.message.Request.{Request}
use Rattle.mctp_net.specs.declared.packet.Packet.{Packet}
use Rattle.mctp_net.specs.declared.message.Message.{Message}
use Rattle.mctp_net.specs.declared.taken.DropCause.{DropCause}
use Rattle.mctp_net.specs.declared.taken.DropCause.TheVariants.{NotOurs, NoStart, TooLong, OutOfSequence, UnitSize, NoSlot}
use Rattle.mctp_net.specs.Sizes.{unit_size}
use Rattle.mctp_net.specs.Cut.{Piece, EachFrom, piece, carried}
use Rattle.mctp_net.specs.Assembly.{Assemblies, joined_to, drop_cause, after, after_where, ended, kept_with, message_of}
use Rattle.mctp_net.specs.Sound.{IsWaitingAt, AreSoundAssemblies, FitsAssembly}
use Rattle.mctp_net.proofs.Causes.{passes}
use Rattle.mctp_net.proofs.Soundness.{joined-waiting, sound-after}
use Rattle.mctp_net.proofs.Wholes.{ended-body}
use Rattle.cfg_records.specs.declared.board_file.BoardFile.{BoardFile}
use Rattle.model_bus.specs.Request.{Request as Heard, Entry}
use Rattle.model_bus.specs.Numbering.{Rules, ipmb, is_above}
use Rattle.model_bus.specs.Carried.{outcome, log_after}
use Rattle.model_bus.specs.BusState.{BusState, Frame, Ask, Content, request_of, comes, at_port}
use Rattle.model_bus.specs.Bytes.{request_in}
use Rattle.model_bus.specs.Assembly.{Name, SentPacket, Step, Whole, takes, waiting, first_request, message_of as model_message_of}
use Rattle.model_bus.specs.PacketBus.{PacketBus, rules_of, request_name, set_at, BusEnds, PacketEvent, OtherPacket, PacketReachesPort, whole_comes, other_request, hears_other, packet_comes, port_takes, packet_at_port, packet_happens}
use Rattle.model_bus.specs.PacketEffect.{step_of, whole_request, completed_request, HasPacketEffect, FrameAtPort, PortEffect, HoldsRequest}
use Rattle.bmc_board.specs.State.{State}
use Rattle.bmc_core.specs.Seen.{seen, WaitsAlike, AgreesWithJoin, model_after}
use Rattle.bmc_core.proofs.PacketSteps.{takes-agrees}
use Rattle.bmc_core.proofs.Waiting.{waits-alike}
use Rattle.bmc_core.proofs.WholeBytes.{whole-bytes}
use Rattle.bmc_core.specs.Bytes.{heard_in}
use Rattle.bmc_core.specs.PortSteps.{PortState, StepResult, turn, stays, hears_request, hears_message, hears_part, ends_message}
use Rattle.bmc_core.specs.PortEvents.{answer_to, RequestsAreEvents, RequestsLeaveLog, part_answer_to, name_in, event_by, happens_if, IsPortOf, IsManagersPart, PartsAreEvents, PartsLeaveLog}
use Rattle.bmc_core.proofs.PortPart.{log_if, read_in, Leaves, message-leaves}

-- ---- IPMB

module _ (setup : BoardFile) (port : PortState) (before : State) (r : Request) (manager controller first : ℕ) (s : BusState) (same : s.log ≡ port.log) where
  abbrev rules : Rules
  rules = ipmb manager controller first

  abbrev answer : List ℕ
  answer = answer_to setup before r

  -- the log, after a request with this answer
  abbrev log_of : Heard → List Entry → List Entry
  log_of q log = log_after (outcome (is_above 64) q log) (record { request = q; reply = answer }) log

  at-port : log_of (heard_in r) port.log ≡ (hears_request setup port before r).port.log
  unfolding turn hears_request
  at-port = refl

  comes-so : (f : Frame) (bytes : List ℕ) → f.content ≡ Ask bytes → heard_in r ≡ request_of rules f.request bytes
      → (comes rules answer f.request f.content s).log ≡ (hears_request setup port before r).port.log
  comes-so f bytes asks is =
      ap (λ (c : Content). (comes rules answer f.request c s).log) asks
      ∙ ap (λ (q : Heard). log_of q s.log) (sym is)
      ∙ ap (log_of (heard_in r)) same
      ∙ at-port

  pub requests-are-events : RequestsAreEvents setup port before r rules s
  requests-are-events = record {
    others = ap (log_of (heard_in r)) same ∙ at-port;
    managers = λ which f bytes sent asks is. ap (λ (o : Option Frame). (at_port rules answer o s).log) sent ∙ comes-so f bytes asks is;
  }

pub requests_leave_log : RequestsLeaveLog
requests_leave_log setup port before r manager controller first s same = requests-are-events setup port before r manager controller first s same

-- ---- SMBus

-- pieces that wait at their places carry 64 bytes each
carried-few : (from : ℕ) (ps : List Piece) → EachFrom IsWaitingAt from ps → length (carried ps) ≤ 64 * length ps
carried-few from [] h = omega arith
carried-few from (p ∷ ps) h = let one : length p.payload ≡ 64 = h.0.full in omega (arith, length-append p.payload (carried ps), one, carried-few (from + 1) ps h.1)

-- a message that a packet of at most 64 bytes ends has at most 256
pub whole-few : (own : ℕ) (a : Assemblies) (p : Packet) → AreSoundAssemblies a → length p.payload ≤ unit_size → drop_cause own a p ≡ None → p.end ≡ true
    → length (message_of (after own a p) p).body ≤ 256
whole-few own a p sound most none ends =
    let fits : FitsAssembly a p = (passes own a p none).1 in
    let front : List Piece = joined_to p a in
    let kept : after own a p ≡ ended p a = ap (λ (c : Option DropCause). after_where c p a) none ∙ ap (λ t. cond t (ended p a) (kept_with p a)) ends in
    let body : length (message_of (after own a p) p).body ≡ length (carried (front ++ piece p ∷ [])) =
    ap (λ (b : Assemblies). length (message_of b p).body) kept ∙ ap length (ended-body a p) in
    let parts : length (carried (front ++ piece p ∷ [])) ≡ length (carried front) + length (carried (piece p ∷ [])) =
    ap length (flat_map-append (λ (q : Piece). q.payload) front (piece p ∷ [])) ∙ length-append (carried front) (carried (piece p ∷ [])) in
    let last : length (carried (piece p ∷ [])) ≡ length p.payload = ap length (append-nil p.payload) in
    let before : length (carried front) ≤ 64 * length front = carried-few 0 front (joined-waiting p a (sound.fronts _)) in
    let few : length front < 4 = fits.few in
    omega (arith, body, parts, last, before, few, most)

module _ (setup : BoardFile) (port : PortState) (before : State) (p : Packet) (b : PacketBus) (x : BusEnds) (most : length p.payload ≤ unit_size) (is : IsPortOf x port) where
  abbrev cause : Option DropCause
  cause = drop_cause port.eid port.kept p

  abbrev kept : Assemblies
  kept = after port.eid port.kept p

  abbrev whole : Message
  whole = message_of kept p

  abbrev part_answer : List ℕ
  part_answer = part_answer_to setup port before p

  abbrev next : PortState
  next = record port { kept = kept }

  abbrev deed : StepResult
  deed = hears_part setup port before p

  deed-is : (c : Option DropCause) → cause ≡ c → deed ≡ ends_message setup next before p c
  unfolding hears_part
  deed-is c e = ap (ends_message setup next before p) e

  -- the message that the packet ends leaves this log
  ends-log : cause ≡ None → p.end ≡ true → Leaves setup next before whole (log_if part_answer (read_in whole) port.log) (hears_message setup next before whole)
  ends-log none ends = message-leaves setup next before whole (whole-few port.eid port.kept p is.sound most none ends)

  -- what the model takes as a packet of a request
  abbrev sent_as : ℕ → ℕ → SentPacket
  sent_as n idles = record { request = n; idles = idles; packet = seen (piece p) }

  -- by the cause: what is to be shown of the port after it, where these are the model's ends
  port-after : (y : BusEnds) (d : StepResult) → d ≡ deed → (n idles : ℕ) → y.port ≡ model_after cause (name_in p) (sent_as n idles) x.port → y.bus.log ≡ d.port.log → d.port.kept ≡ kept → IsPortOf y deed.port
  port-after y d same n idles waits log keeps =
      let alike : WaitsAlike (model_after cause (name_in p) (sent_as n idles) x.port) kept = waits-alike port.eid port.kept p (sent_as n idles) x.port refl is.waits in
      let ok : IsPortOf y d.port = record {
        log = log;
        waits = subst (λ (w : Name → List SentPacket). WaitsAlike w d.port.kept) (sym waits) (subst (λ (a : Assemblies). WaitsAlike (model_after cause (name_in p) (sent_as n idles) x.port) a) (sym keeps) alike);
        sound = subst AreSoundAssemblies (sym keeps) (sound-after port.eid port.kept p is.sound);
      } in
      subst (λ (e : StepResult). IsPortOf y e.port) same ok

  abbrev taken : ℕ → ℕ → Step × List SentPacket
  taken n idles = takes (x.port (name_in p)) (sent_as n idles)

  abbrev all : ℕ → ℕ → List SentPacket
  all n idles = waiting (x.port (name_in p)) (sent_as n idles) ++ sent_as n idles ∷ []

  agrees : (n idles : ℕ) → AgreesWithJoin cause p.end (all n idles) (taken n idles)
  agrees n idles = takes-agrees port.eid port.kept p (sent_as n idles) (x.port (name_in p)) refl (is.waits _)

  -- the model's bytes of the message that the packet ends
  bytes-are : cause ≡ None → p.end ≡ true → (n idles : ℕ) → model_message_of (all n idles) ≡ whole.body
  bytes-are none ends n idles = whole-bytes port.eid port.kept p (sent_as n idles) (x.port (name_in p)) refl (is.waits _) none ends

  whole-deed : cause ≡ None → p.end ≡ true → hears_message setup next before whole ≡ deed
  whole-deed none ends = sym (deed-is None none ∙ ap (λ (t : Bool). cond t (hears_message setup next before whole) (stays next before)) ends)

  waits-deed : cause ≡ None → p.end ≡ false → stays next before ≡ deed
  waits-deed none more = sym (deed-is None none ∙ ap (λ (t : Bool). cond t (hears_message setup next before whole) (stays next before)) more)

  -- what waits in the model, by the cause
  waits-by : (c : Option DropCause) → cause ≡ c → (n idles : ℕ) → model_after c (name_in p) (sent_as n idles) x.port ≡ model_after cause (name_in p) (sent_as n idles) x.port
  waits-by c e n idles = ap (λ (d : Option DropCause). model_after d (name_in p) (sent_as n idles) x.port) (sym e)

  -- ---- any requester's packet

  abbrev other_log : Step × List SentPacket → List Entry
  other_log r = (hears_other (rules_of b) part_answer (other_request (name_in p) r.0) x.bus).log

  hears-log : (o : Option Heard) → (hears_other (rules_of b) part_answer o x.bus).log ≡ log_if part_answer o x.bus.log
  hears-log None = refl
  hears-log (Some r) = refl

  abbrev other : PacketEvent
  other = OtherPacket (name_in p) (seen (piece p)) part_answer

  other-ends : (ends : Bool) → p.end ≡ ends → cause ≡ None → AgreesWithJoin None ends (all 0 0) (taken 0 0) → IsPortOf (happens_if b (event_by None (name_in p) other) x) deed.port
  other-ends true e none h =
      let left = ends-log none e in
      let read : (hears_other (rules_of b) part_answer (other_request (name_in p) (Whole (all 0 0))) x.bus).log ≡ log_if part_answer (read_in whole) x.bus.log =
      hears-log (other_request (name_in p) (Whole (all 0 0)))
      ∙ ap (λ (bytes : List ℕ). log_if part_answer (let no : Option Heard = None in cond p.envelope.tag_owner (request_in p.envelope.source_eid bytes) no) x.bus.log) (bytes-are none e 0 0) in
      port-after (happens_if b (event_by None (name_in p) other) x) (hears_message setup next before whole) (whole-deed none e) 0 0 (waits-by None none 0 0)
      (ap other_log h ∙ read ∙ ap (log_if part_answer (read_in whole)) is.log ∙ sym left.logged) left.kept
  other-ends false e none h =
      port-after (happens_if b (event_by None (name_in p) other) x) (stays next before) (waits-deed none e) 0 0 (waits-by None none 0 0) (ap other_log h ∙ is.log) refl

  other-dropped : (c : Option DropCause) → cause ≡ c → stays next before ≡ ends_message setup next before p c → (y : BusEnds) → y.port ≡ model_after c (name_in p) (sent_as 0 0) x.port → y.bus.log ≡ port.log → IsPortOf y deed.port
  other-dropped c e same y waits log = port-after y (stays next before) (same ∙ sym (deed-is c e)) 0 0 (waits ∙ waits-by c e 0 0) log refl

  others : (c : Option DropCause) → cause ≡ c → AgreesWithJoin c p.end (all 0 0) (taken 0 0) → IsPortOf (happens_if b (event_by c (name_in p) other) x) deed.port
  others (Some NotOurs) e h = other-dropped (Some NotOurs) e refl x refl is.log
  others (Some NoSlot) e h = other-dropped (Some NoSlot) e refl (happens_if b (event_by (Some NoSlot) (name_in p) other) x) refl is.log
  others (Some NoStart) e h = other-dropped (Some NoStart) e refl (happens_if b (event_by (Some NoStart) (name_in p) other) x) refl (ap other_log h ∙ is.log)
  others (Some TooLong) e h = other-dropped (Some TooLong) e refl (happens_if b (event_by (Some TooLong) (name_in p) other) x) refl (ap other_log h ∙ is.log)
  others (Some OutOfSequence) e h = other-dropped (Some OutOfSequence) e refl (happens_if b (event_by (Some OutOfSequence) (name_in p) other) x) refl (ap other_log h ∙ is.log)
  others (Some UnitSize) e h = other-dropped (Some UnitSize) e refl (happens_if b (event_by (Some UnitSize) (name_in p) other) x) refl (ap other_log h ∙ is.log)
  others None e h = other-ends p.end refl e h

  -- ---- the manager's packet

  module _ (which place : ℕ) (m : IsManagersPart b x which place p) where
    abbrev arrives : PacketEvent
    arrives = PacketReachesPort which place part_answer

    -- both ends after it, where it's taken
    abbrev taken_ends : BusEnds
    taken_ends = record x {
      bus = whole_comes (rules_of b) part_answer m.frame.request (taken m.frame.request m.frame.idles).0 x.bus;
      port = set_at (name_in p) (taken m.frame.request m.frame.idles).1 x.port;
    }

    happens-is : packet_happens b x arrives ≡ taken_ends
    happens-is =
        ap (λ (o : Option Frame). packet_at_port b part_answer place o x) m.sent
        ∙ ap (λ (c : Content). packet_comes b part_answer place m.frame.request m.frame.idles c x) m.asks
        ∙ ap (λ o. port_takes b part_answer m.frame.request m.frame.idles o x) m.part
        ∙ ap (λ (name : Name).
        let r = takes (x.port name) (sent_as m.frame.request m.frame.idles) in
        let y : BusEnds = record x { bus = whole_comes (rules_of b) part_answer m.frame.request r.0 x.bus; port = set_at name r.1 x.port } in y) (sym m.named)

    abbrev IsSent : Step → Type 0
    IsSent step = IfSome (whole_request (rules_of b) m.frame.request step) (λ r. r ≡ request_of (rules_of b) m.frame.request m.bytes)

    -- what is whole is what was sent
    as-sent : HasPacketEffect b x arrives → IsSent (taken m.frame.request m.frame.idles).0
    as-sent effect =
        let new = (packet_happens b x arrives).bus in
        let at_frame : PortEffect (rules_of b) m.frame.request m.frame.content (completed_request b x place m.frame.request m.frame.idles m.frame.content) part_answer x.bus new =
        subst (λ (o : Option Frame). FrameAtPort b x place part_answer new o) m.sent effect in
        let of_bytes : IfSome (completed_request b x place m.frame.request m.frame.idles (Ask m.bytes)) (HoldsRequest (rules_of b) m.frame.request (Ask m.bytes)) =
        subst (λ (c : Content). IfSome (completed_request b x place m.frame.request m.frame.idles c) (HoldsRequest (rules_of b) m.frame.request c)) m.asks at_frame.as_sent in
        let of_part : IsSent (step_of x.port (request_name b m.frame.request) m.frame.request m.frame.idles (Some (seen (piece p)))) =
        subst (λ o. IsSent (step_of x.port (request_name b m.frame.request) m.frame.request m.frame.idles o)) m.part of_bytes in
        subst (λ (name : Name). IsSent (takes (x.port name) (sent_as m.frame.request m.frame.idles)).0) (sym m.named) of_part

    abbrev model_log : Step × List SentPacket → List Entry
    model_log r = (whole_comes (rules_of b) part_answer m.frame.request r.0 x.bus).log

    -- the port reads the request in the bytes that were sent
    read-is : whole.body ≡ m.bytes → read_in whole ≡ Some (request_of (rules_of b) m.frame.request m.bytes)
    read-is same =
        let none : Option Heard = None in
        ap (λ (t : Bool). cond t (request_in p.envelope.source_eid whole.body) none) (ap (λ (name : Name). name.owner) m.named)
        ∙ ap (λ (q : ℕ). request_in q whole.body) (ap (λ (name : Name). name.source) m.named)
        ∙ ap (request_in b.manager) same
        ∙ m.read

    managers-ends : (ends : Bool) → p.end ≡ ends → cause ≡ None → AgreesWithJoin None ends (all m.frame.request m.frame.idles) (taken m.frame.request m.frame.idles)
        → IsSent (taken m.frame.request m.frame.idles).0 → IsPortOf taken_ends deed.port
    managers-ends true e none h sent =
        let left = ends-log none e in
        let whole_is : request_of (rules_of b) (first_request m.frame.request (all m.frame.request m.frame.idles)) (model_message_of (all m.frame.request m.frame.idles)) ≡ request_of (rules_of b) m.frame.request m.bytes =
        subst (λ (r : Step × List SentPacket). IsSent r.0) h sent in
        let same : whole.body ≡ m.bytes = sym (bytes-are none e m.frame.request m.frame.idles) ∙ ap (λ (q : Heard). q.bytes) whole_is in
        port-after taken_ends (hears_message setup next before whole) (whole-deed none e) m.frame.request m.frame.idles (waits-by None none m.frame.request m.frame.idles)
        (ap model_log h
        ∙ ap (λ (q : Heard). log_if part_answer (Some q) x.bus.log) whole_is
        ∙ ap (λ (o : Option Heard). log_if part_answer o x.bus.log) (sym (read-is same))
        ∙ ap (log_if part_answer (read_in whole)) is.log
        ∙ sym left.logged)
        left.kept
    managers-ends false e none h sent =
        port-after taken_ends (stays next before) (waits-deed none e) m.frame.request m.frame.idles (waits-by None none m.frame.request m.frame.idles) (ap model_log h ∙ is.log) refl

    managers-dropped : (c : Option DropCause) → cause ≡ c → stays next before ≡ ends_message setup next before p c → (y : BusEnds)
        → y.port ≡ model_after c (name_in p) (sent_as m.frame.request m.frame.idles) x.port → y.bus.log ≡ port.log → IsPortOf y deed.port
    managers-dropped c e same y waits log = port-after y (stays next before) (same ∙ sym (deed-is c e)) m.frame.request m.frame.idles (waits ∙ waits-by c e m.frame.request m.frame.idles) log refl

    abbrev after_arrival : Option DropCause → BusEnds
    after_arrival c = happens_if b (event_by c (name_in p) arrives) x

    -- where it's taken
    by_taken : IsPortOf taken_ends deed.port → IsPortOf (packet_happens b x arrives) deed.port
    by_taken ok = subst (λ (y : BusEnds). IsPortOf y deed.port) (sym happens-is) ok

    managers : (c : Option DropCause) → cause ≡ c → AgreesWithJoin c p.end (all m.frame.request m.frame.idles) (taken m.frame.request m.frame.idles)
        → IsSent (taken m.frame.request m.frame.idles).0 → IsPortOf (after_arrival c) deed.port
    managers (Some NotOurs) e h sent = managers-dropped (Some NotOurs) e refl x refl is.log
    managers (Some NoSlot) e h sent = managers-dropped (Some NoSlot) e refl (after_arrival (Some NoSlot)) refl is.log
    managers (Some NoStart) e h sent = by_taken (managers-dropped (Some NoStart) e refl taken_ends refl (ap model_log h ∙ is.log))
    managers (Some TooLong) e h sent = by_taken (managers-dropped (Some TooLong) e refl taken_ends refl (ap model_log h ∙ is.log))
    managers (Some OutOfSequence) e h sent = by_taken (managers-dropped (Some OutOfSequence) e refl taken_ends refl (ap model_log h ∙ is.log))
    managers (Some UnitSize) e h sent = by_taken (managers-dropped (Some UnitSize) e refl taken_ends refl (ap model_log h ∙ is.log))
    managers None e h sent = by_taken (managers-ends p.end refl e h sent)

  pub parts-are-events : PartsAreEvents setup port before p b x
  parts-are-events = record {
    others = others cause refl (agrees 0 0);
    managers = λ which place m effect. managers which place m cause refl (agrees m.frame.request m.frame.idles) (as-sent which place m effect);
  }

pub parts_leave_log : PartsLeaveLog
parts_leave_log setup port before p b x most is = parts-are-events setup port before p b x most is
