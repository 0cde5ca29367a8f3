-- A manager that goes on from a list is seen alike, over calls and the bytes of frames.
use Rattle.std.proofs.Common.{◌≡◌, ℕ, ◌%◌, ◌<◌, Bool, true, false, cond, not, ◌&&◌, List, [], ◌∷◌, map, Option, Some, None, ◌⊎◌, inl, inr, refl, sym, ◌∙◌, ap, subst, arith, option_map}
use Rattle.std.specs.Prelude.{◌==◌, unwrap_or}
use Rattle.std.specs.List.{All}
use Rattle.std.proofs.lemmas.Option.{none-some}
use Rattle.std.proofs.lemmas.List.Elements.{All-head, All-tail}
use Rattle.two_wire.specs.declared.Bus.{Bus}
use Rattle.two_wire.specs.declared.Bus.TheVariants.{Ipmb, Smbus}
use Rattle.ipmb_frame.specs.declared.message.Response.{Response}
use Rattle.ipmb_frame.specs.declared.message.Msg.{Msg}
use Rattle.ipmb_frame.specs.declared.message.Msg.TheVariants as msg
use Rattle.ipmb_frame.specs.Fault.{HasFault as HasFrameFault}
use Rattle.ipmb_frame.specs.Grammar.{IsMessage}
use Rattle.ipmb_frame.proofs.Faultless.{fault-or-message}
use Rattle.ipmb_frame.proofs.Whole.{message-no_fault}
use Rattle.mctp_net.specs.declared.packet.Packet.{Packet}
use Rattle.mctp_net.specs.declared.taken.DropCause.{DropCause}
use Rattle.mctp_net.specs.Assembly.{Assemblies, nothing, drop_cause, after as kept_after, message_of}
use Rattle.mctp_net.specs.Grammar.{IsPacket, HasFault as HasPacketFault}
use Rattle.mctp_net.proofs.Faultless.{fault-or-packet}
use Rattle.mctp_net.proofs.PacketLaws.{packet-whole}
use Rattle.record_base.specs.declared.message.Asked.{Asked}
use Rattle.record_base.specs.declared.message.Asked.TheVariants.{Ipmi, Pldm}
use Rattle.undo_plans.specs.declared.names.Names.{Names}
use Rattle.model_bus.specs.Bytes.{answers}
use Rattle.model_undo.specs.Machine.{Part as TaskPart, Machine, Sending, Turn, phase_of}
use Rattle.model_undo.specs.Wires.{number_of}
use Rattle.model_undo.specs.Resume.{list_of, resumed, IsOver, Input as MachineInput, Called, Replies, NumberedRequest, request_of, turn_of as machine_turn}
use Rattle.model_undo.proofs.Resume.{Rest, with_rest, IsPast, SameNumbers, IsAlike, AreAlike, any_alike, same_phase, over_alike}
use Rattle.model_undo.proofs.OnBus.{IsOnBus, SendsOnBus, sends_on_bus}
use Rattle.bmc_core.specs.Wires.{bus_of, bytes_of, answered_from}
use Rattle.bmc_core.specs.Bytes.{response_bytes}
use Rattle.bmc_core.specs.Values.{Value, Asks, Tells, Part, written, IsFrameOn}
use Rattle.model_undo.specs.declared.call.Call.{Call}
use Rattle.model_undo.specs.declared.call.Call.TheVariants.{Start, Quiet, Stop, Again, Undo}
use Rattle.model_lab.specs.ManagerSteps.{ManagerState, ManagerStepResult, board_plans, values_of, called, goes_on, sent_of, rests, is_answer, is_part, heeded_on, open_count, open_bytes, taken_or, tested, hears_reply, hears_response, ends_reply, joins, joins_for, hears_packet, manager_hears}
use Rattle.undo_core.specs.Shown.{words_of}
use Rattle.undo_core.specs.Course.{Input, Calls, Hears, HasBytes, Frames, SeenStep, HearsBytes, or_rests, IsDeed, frames_of, seen_of, Course, resumes, GoesOnOverFrames}
use Rattle.undo_core.proofs.Exchange.{one_value}

-- ---- bytes are a frame or none

-- they are one of a value
pub record OfValue (on : Bus) (bytes : List ℕ) : Type 0 where
  pub value : Value
  pub is : IsFrameOn on value bytes

in_message : (bytes : List ℕ) (m : Msg) → IsMessage m bytes → OfValue Ipmb bytes
in_message bytes (msg.Request r) is = record { value = Asks r; is = is }
in_message bytes (msg.Response r) is = record { value = Tells r; is = is }

no_frame : (bytes : List ℕ) → HasFrameFault bytes → (v : Value) → ¬ IsFrameOn Ipmb v bytes
no_frame bytes fault (Asks r) is = let none : Some fault.0 ≡ None = sym fault.1 ∙ message-no_fault (msg.Request r) bytes is in cc none
no_frame bytes fault (Tells r) is = let none : Some fault.0 ≡ None = sym fault.1 ∙ message-no_fault (msg.Response r) bytes is in cc none
no_frame bytes fault (Part p) is = is

no_part : (bytes : List ℕ) → HasPacketFault bytes → (v : Value) → ¬ IsFrameOn Smbus v bytes
no_part bytes fault (Part p) is = let none : Some fault.0 ≡ None = sym fault.1 ∙ packet-whole p bytes is in cc none
no_part bytes fault (Asks r) is = is
no_part bytes fault (Tells r) is = is

value_or_none : (on : Bus) (bytes : List ℕ) → All (λ b. b < 256) bytes → OfValue on bytes ⊎ ((v : Value) → ¬ IsFrameOn on v bytes)
value_or_none Ipmb bytes small = by (fault-or-message bytes small)
  where
    by : HasFrameFault bytes ⊎ ((m : Msg) × IsMessage m bytes) → OfValue Ipmb bytes ⊎ ((v : Value) → ¬ IsFrameOn Ipmb v bytes)
    by (inl fault) = inr (no_frame bytes fault)
    by (inr message) = inl (in_message bytes message.0 message.1)
value_or_none Smbus bytes small = by (fault-or-packet bytes small)
  where
    by : HasPacketFault bytes ⊎ ((p : Packet) × IsPacket p bytes) → OfValue Smbus bytes ⊎ ((v : Value) → ¬ IsFrameOn Smbus v bytes)
    by (inl fault) = inr (no_part bytes fault)
    by (inr packet) = inl (record { value = Part packet.0; is = packet.1 })

module _ (names : Names) where
  abbrev State : Type 0
  State = ManagerState (board_plans names)

  abbrev Deed : Type 0
  Deed = ManagerStepResult (board_plans names)

  -- ---- of each manager one thing is seen

  -- what comes of an input
  abbrev given_by : (on : Bus) (bytes : List ℕ) (s : State) → OfValue on bytes ⊎ ((v : Value) → ¬ IsFrameOn on v bytes) → (d : Deed) × HearsBytes names on bytes s d
  given_by on bytes s (inl of) = (
    manager_hears (board_plans names) of.value s,
    record {
      frame = λ v is. ap (λ (w : Value). manager_hears (board_plans names) w s) (one_value on of.value v bytes of.is is);
      none = λ none. absurd (none of.value of.is);
    },
  )
  given_by on bytes s (inr none) = (rests (board_plans names) s, record { frame = λ v is. absurd (none v is); none = λ _. refl })

  given : (i : Input) (s : State) → HasBytes i → (d : Deed) × IsDeed names i s d
  given (Calls call) s small = (or_rests names (called (board_plans names) call s) s, refl)
  given (Hears on bytes) s small = given_by on bytes s (value_or_none on bytes small)

  heard_once : (on : Bus) (bytes : List ℕ) (s : State) (d e : Deed) → OfValue on bytes ⊎ ((v : Value) → ¬ IsFrameOn on v bytes) → HearsBytes names on bytes s d → HearsBytes names on bytes s e → d ≡ e
  heard_once on bytes s d e (inl of) a b = a.frame of.value of.is ∙ sym (b.frame of.value of.is)
  heard_once on bytes s d e (inr none) a b = a.none none ∙ sym (b.none none)

  one_deed : (i : Input) (s : State) (d e : Deed) → HasBytes i → IsDeed names i s d → IsDeed names i s e → d ≡ e
  one_deed (Calls call) s d e small a b = a ∙ sym b
  one_deed (Hears on bytes) s d e small a b = heard_once on bytes s d e (value_or_none on bytes small) a b

  some_course : (inputs : List Input) (s : State) → All HasBytes inputs → (seen : List SeenStep) × Course names inputs s seen
  some_course [] s small = ([], tt)
  some_course (i ∷ is) s small =
      let deed = given i s (All-head HasBytes i is small) in
      let rest = some_course is deed.0.manager (All-tail HasBytes i is small) in
      (seen_of names deed.0 ∷ rest.0, (deed.0, deed.1, refl, rest.1))

  one_course : (inputs : List Input) (s : State) → All HasBytes inputs → (a b : List SeenStep) → Course names inputs s a → Course names inputs s b → a ≡ b
  one_course [] s small [] [] x y = refl
  one_course [] s small [] (o ∷ os) x y = absurd y
  one_course [] s small (o ∷ os) b x y = absurd x
  one_course (i ∷ is) s small [] b x y = absurd x
  one_course (i ∷ is) s small (o ∷ os) [] x y = absurd y
  one_course (i ∷ is) s small (o ∷ os) (p ∷ ps) (d, a, o_is, rest) (e, b, p_is, more) =
      let same : e ≡ d = one_deed i s e d (All-head HasBytes i is small) b a in
      let tail = one_course is d.manager (All-tail HasBytes i is small) os ps rest (subst (λ (f : Deed). Course names is f.manager ps) same more) in
      let head : o ≡ p = o_is ∙ ap (seen_of names) (sym same) ∙ sym p_is in
      λ j. head j ∷ tail j

  -- ---- two managers that are alike

  abbrev alike_machines : Machine (words_of names) → Machine (words_of names) → Type 0
  alike_machines = IsAlike (words_of names)

  -- they differ in what a manager past its plan no longer looks at, or only by its numbers
  record AreAlikeStates (s t : State) : Type 0 where
    machines : alike_machines s.machine t.machine
    named : t.names ≡ s.names
    listed : t.listed ≡ s.listed
    joined : t.joined ≡ s.joined

  record AreAlikeDeeds (d e : Deed) : Type 0 where
    states : AreAlikeStates d.manager e.manager
    sent : option_map (frames_of names) e.sent ≡ option_map (frames_of names) d.sent

  seen_alike : (d e : Deed) → AreAlikeDeeds d e → seen_of names e ≡ seen_of names d
  seen_alike d e alike =
      let phase = same_phase (words_of names) d.manager.machine e.manager.machine alike.states.machines in
      λ i. record { phase = phase i; sent = alike.sent i }

  -- ---- frames

  -- a request under the same number has the same frames
  same_values : (bus : Bus) (count other : ℕ) (asked : Asked) (with_names : Names) → number_of bus other ≡ number_of bus count → bus ≡ bus_of asked → values_of with_names other asked ≡ values_of with_names count asked
  same_values bus count other (Ipmi from net_fn lun command body) with_names same on =
      let number : number_of Ipmb other ≡ number_of Ipmb count = subst (λ (b : Bus). number_of b other ≡ number_of b count) on same in
      cc number
  same_values bus count other (Pldm from kind command body) with_names same on =
      let number : number_of Smbus other ≡ number_of Smbus count = subst (λ (b : Bus). number_of b other ≡ number_of b count) on same in
      let tag : other % 8 ≡ count % 8 = omega (arith, number) in
      cc (number, tag)

  -- what the machine sends, as frames
  abbrev sent_frames : Option (Sending (words_of names)) → Names → Option Frames
  sent_frames sends with_names = option_map (frames_of names) (option_map (sent_of (board_plans names) with_names) sends)

  same_sent : (o p : Option (Sending (words_of names))) (with_names : Names) → option_map (request_of (words_of names)) p ≡ option_map (request_of (words_of names)) o
      → IsOnBus (words_of names) o → sent_frames p with_names ≡ sent_frames o with_names
  same_sent None None with_names same on = refl
  same_sent None (Some u) with_names same on = cc same
  same_sent (Some s) None with_names same on = cc same
  same_sent (Some s) (Some u) with_names same on =
      let one : request_of (words_of names) u ≡ request_of (words_of names) s = ap (λ (o : Option (NumberedRequest (words_of names))). unwrap_or o (request_of (words_of names) s)) same in
      let bus : u.bus ≡ s.bus = ap (λ (x : NumberedRequest (words_of names)). x.bus) one in
      let number : number_of u.bus u.count ≡ number_of s.bus s.count = ap (λ (x : NumberedRequest (words_of names)). x.number) one in
      let asked : u.asked ≡ s.asked = ap (λ (x : NumberedRequest (words_of names)). x.asked) one in
      let here : number_of s.bus u.count ≡ number_of s.bus s.count = subst (λ (b : Bus). number_of b u.count ≡ number_of s.bus s.count) bus number in
      let values : values_of with_names u.count u.asked ≡ values_of with_names s.count s.asked =
      ap (values_of with_names u.count) asked ∙ same_values s.bus s.count u.count s.asked with_names here on in
      λ i. Some (record { on = bus i; frames = map written (values i) })

  -- ---- one thing that comes: the one is past its plan, and the other is that but for the rest

  module _ (s : State) (r : Rest (words_of names)) (past : IsPast (words_of names) s.machine.stage) (numbers : SameNumbers (words_of names) r.counts s.machine.counts) where
    abbrev other : State
    other = record s { machine = with_rest (words_of names) r s.machine }

    alike_machine : alike_machines s.machine other.machine
    alike_machine = record { rest = r; is = refl; past = past; numbers = numbers }

    alike_rest : AreAlikeDeeds (rests (board_plans names) s) (rests (board_plans names) other)
    alike_rest = record { states = record { machines = alike_machine; named = refl; listed = refl; joined = refl }; sent = refl }

    -- the machine goes on, with these packets waiting
    alike_turns : (joined : Assemblies) (o p : Option (Turn (words_of names))) → AreAlike (words_of names) o p → SendsOnBus (words_of names) o
        → AreAlikeDeeds (taken_or (board_plans names) (record s { joined = joined }) o) (taken_or (board_plans names) (record other { joined = joined }) p)
    alike_turns joined None None alike on = record { states = record { machines = alike_machine; named = refl; listed = refl; joined = refl }; sent = refl }
    alike_turns joined None (Some u) alike on = absurd alike
    alike_turns joined (Some t) None alike on = absurd alike
    alike_turns joined (Some t) (Some u) alike on = record { states = record { machines = alike.0; named = refl; listed = refl; joined = refl }; sent = same_sent t.sends u.sends s.names alike.1 on }

    by_machine : (c : MachineInput) (joined : Assemblies)
        → AreAlikeDeeds (taken_or (board_plans names) (record s { joined = joined }) (machine_turn (words_of names) c s.machine))
        (taken_or (board_plans names) (record other { joined = joined }) (machine_turn (words_of names) c other.machine))
    by_machine c joined =
        alike_turns joined (machine_turn (words_of names) c s.machine) (machine_turn (words_of names) c other.machine) (any_alike (words_of names) c s.machine other.machine alike_machine)
        (sends_on_bus (words_of names) c s.machine)

    -- a reply
    either : (b c : Bool) (d e f g : Deed) → c ≡ b → AreAlikeDeeds d e → AreAlikeDeeds f g → AreAlikeDeeds (cond b d f) (cond c e g)
    either b true d e f g same passes fails = subst (λ (x : Bool). AreAlikeDeeds (cond x d f) e) same passes
    either b false d e f g same passes fails = subst (λ (x : Bool). AreAlikeDeeds (cond x d f) g) same fails

    tested_alike : (on : Bus) (reply : List ℕ) (joined : Assemblies) (o : Option (TaskPart (words_of names)))
        → AreAlikeDeeds (tested (board_plans names) on reply (record s { joined = joined }) o) (tested (board_plans names) on reply (record other { joined = joined }) o)
    tested_alike on reply joined None = record { states = record { machines = alike_machine; named = refl; listed = refl; joined = refl }; sent = refl }
    tested_alike on reply joined (Some part) =
        either (answers on (open_bytes (board_plans names) on s part) reply) (answers on (open_bytes (board_plans names) on other part) reply) _ _ _ _
        (ap (λ (n : ℕ). answers on (bytes_of n part.asked) reply) (numbers on))
        (by_machine (Replies (answered_from on reply)) joined)
        (record { states = record { machines = alike_machine; named = refl; listed = refl; joined = refl }; sent = refl })

    reply_alike : (on : Bus) (reply : List ℕ) (joined : Assemblies)
        → AreAlikeDeeds (hears_reply (board_plans names) on reply (record s { joined = joined })) (hears_reply (board_plans names) on reply (record other { joined = joined }))
    reply_alike on reply joined = tested_alike on reply joined (heeded_on (board_plans names) on s.machine.stage)

    response_alike : (q : Response) → AreAlikeDeeds (hears_response (board_plans names) q s) (hears_response (board_plans names) q other)
    unfolding hears_response
    response_alike q = either (is_answer s.names q) (is_answer s.names q) _ _ _ _ refl (reply_alike Ipmb (response_bytes q) s.joined) alike_rest

    -- a packet
    rest_with : (joined : Assemblies) → AreAlikeDeeds (rests (board_plans names) (record s { joined = joined })) (rests (board_plans names) (record other { joined = joined }))
    rest_with joined = record { states = record { machines = alike_machine; named = refl; listed = refl; joined = refl }; sent = refl }

    ends_alike : (p : Packet) (joined : Assemblies) (o : Option DropCause)
        → AreAlikeDeeds (ends_reply (board_plans names) p o (record s { joined = joined })) (ends_reply (board_plans names) p o (record other { joined = joined }))
    ends_alike p joined (Some cause) = rest_with joined
    ends_alike p joined None = either p.end p.end _ _ _ _ refl (reply_alike Smbus (message_of joined p).body joined) (rest_with joined)

    joins_alike : (p : Packet) → AreAlikeDeeds (joins (board_plans names) p s) (joins (board_plans names) p other)
    joins_alike p = ends_alike p (kept_after s.names.own_eid s.joined p) (drop_cause s.names.own_eid s.joined p)

    same_part : (p : Packet) → is_part s.names (open_count (board_plans names) Smbus other) p ≡ is_part s.names (open_count (board_plans names) Smbus s) p
    same_part p =
        let number : r.counts.smbus % 32 ≡ s.machine.counts.smbus % 32 = numbers Smbus in
        let tag : r.counts.smbus % 8 ≡ s.machine.counts.smbus % 8 = omega (arith, number) in
        ap (λ (t : ℕ). (p.envelope.destination == s.names.own_wire && p.envelope.source == s.names.peer_wire)
        && (p.envelope.source_eid == s.names.peer_eid && (not p.envelope.tag_owner && p.envelope.tag == t))) tag

    part_alike : (p : Packet) (o : Option (TaskPart (words_of names))) → AreAlikeDeeds (joins_for (board_plans names) p s o) (joins_for (board_plans names) p other o)
    part_alike p None = alike_rest
    part_alike p (Some part) =
        either (is_part s.names (open_count (board_plans names) Smbus s) p) (is_part s.names (open_count (board_plans names) Smbus other) p) _ _ _ _ (same_part p) (joins_alike p) alike_rest

    packet_alike : (p : Packet) → AreAlikeDeeds (hears_packet (board_plans names) p s) (hears_packet (board_plans names) p other)
    unfolding hears_packet
    packet_alike p = part_alike p (heeded_on (board_plans names) Smbus s.machine.stage)

    value_alike : (v : Value) → AreAlikeDeeds (manager_hears (board_plans names) v s) (manager_hears (board_plans names) v other)
    value_alike (Asks q) = alike_rest
    value_alike (Tells q) = response_alike q
    value_alike (Part p) = packet_alike p

    -- a call
    deed_alike : (joined : Assemblies) (o p : Option (Turn (words_of names))) → AreAlike (words_of names) o p → SendsOnBus (words_of names) o
        → AreAlikeDeeds (or_rests names (option_map (goes_on (board_plans names) (record s { joined = joined })) o) s) (or_rests names (option_map (goes_on (board_plans names) (record other { joined = joined })) p) other)
    deed_alike joined None None alike on = alike_rest
    deed_alike joined None (Some u) alike on = absurd alike
    deed_alike joined (Some t) None alike on = absurd alike
    deed_alike joined (Some t) (Some u) alike on = record { states = record { machines = alike.0; named = refl; listed = refl; joined = refl }; sent = same_sent t.sends u.sends s.names alike.1 on }

    call_by : (c : MachineInput) (joined : Assemblies) → AreAlikeDeeds (or_rests names (option_map (goes_on (board_plans names) (record s { joined = joined })) (machine_turn (words_of names) c s.machine)) s)
        (or_rests names (option_map (goes_on (board_plans names) (record other { joined = joined })) (machine_turn (words_of names) c other.machine)) other)
    call_by c joined =
        deed_alike joined (machine_turn (words_of names) c s.machine) (machine_turn (words_of names) c other.machine) (any_alike (words_of names) c s.machine other.machine alike_machine)
        (sends_on_bus (words_of names) c s.machine)

    call_alike : (call : Call) → AreAlikeDeeds (or_rests names (called (board_plans names) call s) s) (or_rests names (called (board_plans names) call other) other)
    unfolding called
    call_alike Start = call_by (Called Start) s.joined
    call_alike Quiet = call_by (Called Quiet) s.joined
    call_alike Stop = call_by (Called Stop) s.joined
    call_alike Again = call_by (Called Again) s.joined
    call_alike Undo = call_by (Called Undo) nothing

    -- whatever comes, of each deed of the one there is one of the other that is alike
    input_alike : (i : Input) → HasBytes i → (d : Deed) → IsDeed names i s d → (e : Deed) × IsDeed names i other e × AreAlikeDeeds d e
    input_alike (Calls call) small d is = (or_rests names (called (board_plans names) call other) other, refl, subst (λ (x : Deed). AreAlikeDeeds x (or_rests names (called (board_plans names) call other) other)) (sym is) (call_alike call))
    input_alike (Hears on bytes) small d is = by (value_or_none on bytes small)
      where
        by : OfValue on bytes ⊎ ((v : Value) → ¬ IsFrameOn on v bytes) → (e : Deed) × HearsBytes names on bytes other e × AreAlikeDeeds d e
        by (inl of) =
            let there = given_by on bytes other (inl of) in
            (there.0, there.1, subst (λ (x : Deed). AreAlikeDeeds x there.0) (sym (is.frame of.value of.is)) (value_alike of.value))
        by (inr none) =
            let there = given_by on bytes other (inr none) in
            (there.0, there.1, subst (λ (x : Deed). AreAlikeDeeds x there.0) (sym (is.none none)) alike_rest)

  -- ---- all that comes

  -- a manager that is alike is the other but for the rest
  as_other : (s t : State) (alike : AreAlikeStates s t) → t ≡ record s { machine = with_rest (words_of names) alike.machines.rest s.machine }
  as_other s t alike = λ i. record { machine = alike.machines.is i; names = alike.named i; listed = alike.listed i; joined = alike.joined i }

  any_input : (i : Input) (s t : State) → AreAlikeStates s t → HasBytes i → (d : Deed) → IsDeed names i s d → (e : Deed) × IsDeed names i t e × AreAlikeDeeds d e
  any_input i s t alike small d is =
      subst (λ (x : State). (e : Deed) × IsDeed names i x e × AreAlikeDeeds d e) (sym (as_other s t alike))
      (input_alike s alike.machines.rest alike.machines.past alike.machines.numbers i small d is)

  same_course : (inputs : List Input) (s t : State) → AreAlikeStates s t → All HasBytes inputs → (seen : List SeenStep) → Course names inputs s seen → Course names inputs t seen
  same_course [] s t alike small [] course = tt
  same_course [] s t alike small (o ∷ os) course = absurd course
  same_course (i ∷ is) s t alike small [] course = absurd course
  same_course (i ∷ is) s t alike small (o ∷ os) (d, deed, o_is, rest) =
      let there = any_input i s t alike (All-head HasBytes i is small) d deed in
      (there.0, there.1, o_is ∙ sym (seen_alike d there.0 there.2), same_course is d.manager there.0.manager there.2.states (All-tail HasBytes i is small) os rest)

  -- ---- as the undo begins

  begins_alike : (s : State) → (o p : Option (Turn (words_of names))) → AreAlike (words_of names) o p → SendsOnBus (words_of names) o → ((t : Turn (words_of names)) × (p ≡ Some t))
      → AreAlikeDeeds (or_rests names (option_map (goes_on (board_plans names) (record s { joined = nothing })) o) s)
      (or_rests names (option_map (goes_on (board_plans names) (record (resumes names s) { joined = nothing })) p) (resumes names s))
  begins_alike s None None alike on some = absurd (none-some some.0 some.1)
  begins_alike s None (Some u) alike on some = absurd alike
  begins_alike s (Some t) None alike on some = absurd alike
  begins_alike s (Some t) (Some u) alike on some = record { states = record { machines = alike.0; named = refl; listed = refl; joined = refl }; sent = same_sent t.sends u.sends s.names alike.1 on }

  undo_alike : (s : State) → IsOver (words_of names) (phase_of (words_of names) s.machine)
      → AreAlikeDeeds (or_rests names (called (board_plans names) Undo s) s) (or_rests names (called (board_plans names) Undo (resumes names s)) (resumes names s))
  unfolding called
  undo_alike s over =
      let n = resumed (words_of names) s.machine.retries (list_of (words_of names) s.machine) in
      begins_alike s (machine_turn (words_of names) (Called Undo) s.machine) (machine_turn (words_of names) (Called Undo) n) (over_alike (words_of names) s.machine.stage s.machine over)
      (sends_on_bus (words_of names) (Called Undo) s.machine) (_, refl)

  from_undo : (s : State) → IsOver (words_of names) (phase_of (words_of names) s.machine) → (inputs : List Input) → All HasBytes inputs → (seen : List SeenStep)
      → Course names (Calls Undo ∷ inputs) s seen → Course names (Calls Undo ∷ inputs) (resumes names s) seen
  from_undo s over inputs small [] course = absurd course
  from_undo s over inputs small (o ∷ os) (d, deed, o_is, rest) =
      let n = resumes names s in
      let e = or_rests names (called (board_plans names) Undo n) n in
      let alike : AreAlikeDeeds d e = subst (λ (x : Deed). AreAlikeDeeds x e) (sym deed) (undo_alike s over) in
      (e, refl, o_is ∙ sym (seen_alike d e alike), same_course inputs d.manager e.manager alike.states small os rest)

  pub goes_on_over_frames : GoesOnOverFrames names
  goes_on_over_frames = record { some = λ s inputs. some_course inputs s; one = λ s inputs. one_course inputs s; alike = from_undo }
