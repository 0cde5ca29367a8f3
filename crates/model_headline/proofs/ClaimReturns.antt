-- What each frame makes of the manager is the model's.
use Rattle.std.proofs.Common.{◌≡◌, ℕ, ◌<◌, Bool, true, false, not, ◌&&◌, cond, List, Option, Some, None, refl, sym, ◌∙◌, ap, arith}
use Rattle.std.specs.Prelude.{◌==◌}
use Rattle.two_wire.specs.Codes.{success}
use Rattle.two_wire.specs.declared.Bus.{Bus}
use Rattle.two_wire.specs.declared.Bus.TheVariants.{Ipmb, Smbus}
use Rattle.ipmb_frame.specs.declared.message.Response.{Response}
use Rattle.mctp_net.specs.declared.packet.Packet.{Packet}
use Rattle.mctp_net.specs.declared.taken.DropCause.{DropCause}
use Rattle.mctp_net.specs.Assembly.{Assemblies, drop_cause}
use Rattle.record_base.specs.declared.message.Asked.{Asked}
use Rattle.record_base.specs.declared.message.Asked.TheVariants.{Ipmi, Pldm}
use Rattle.record_base.specs.declared.message.Answered.{Answered}
use Rattle.undo_plans.specs.declared.names.Names.{Names}
use Rattle.model_bus.specs.Answered.{Answered as UndoAnswered}
use Rattle.model_undo.specs.Machine as machine
use Rattle.bmc_core.specs.Bytes.{response_bytes}
use Rattle.model_lab.specs.WireLaws.{IsManagers, managers}
use Rattle.model_lab.specs.ManagerSteps.{addresses}
use Rattle.model_lab.specs.ManagerSteps as manager
use Rattle.model_lab.specs.Lab as lab
use Rattle.model_headline.specs.Frames.{Value, Asks, Tells, Part, is_taken, waits_after, whole}
use Rattle.model_headline.specs.Manager.{Task, Gets, Sets, Undoes, Phase, Fresh, Open, Done, Halted, Undone, UndoRefused, Manager, Turn, rests, series_of, next_after, asked_for, answered_by, answer_in, is_part, read_in, hears, carried_out, refused}
use Rattle.model_headline.specs.Lab.{Lab, goes_on}
use Rattle.model_headline.proofs.Packets.{Agrees, IsKept, is_kept}
use Rattle.model_headline.proofs.Answers.{is_busy, of_answer, responses_alike, messages_alike}
use Rattle.model_headline.proofs.Machine.{seen_turn, at_phase, answered, bodies_then, turn_told, takes_turn}
use Rattle.model_headline.proofs.Sends.{seen_deed, turn_lands, IsSeen}
use Rattle.model_headline.proofs.ClaimSeries.{task_made}
use Rattle.model_headline.specs.Seen.{seen_as, words_of, seen_plans, seen_words, seen_value, seen_task, part_of, stage_of, machine_of, seen_manager, seen_lab, SeenManager}
use Rattle.model_headline.proofs.Holds.{IsOrderly, IsLow}

cond_same : {X : Type 0} (b : Bool) (x : X) → x ≡ cond b x x
cond_same true x = refl
cond_same false x = refl

module _ (names : Names) (x : Lab) (made : SeenManager) where
  -- a deed of the model's manager lands in the lab after a turn
  abbrev pub Lands : manager.ManagerStepResult (seen_plans names) → Turn → Type 0
  Lands d t = IsSeen names (lab.manager_does (seen_plans names) d (seen_lab names made x)) (goes_on names t x)

  -- it does where it is the turn's
  pub lands : (d : manager.ManagerStepResult (seen_plans names)) (t : Turn) (made_then : List ℕ) → d ≡ seen_deed names made_then t → Lands d t
  lands d t made_then e =
      let then : SeenManager = record made { manager = made_then } in
      record { made = then; is = ap (λ (d : manager.ManagerStepResult (seen_plans names)). lab.manager_does (seen_plans names) d (seen_lab names made x)) e ∙ turn_lands names t then x }

  module _ (task : Task) (bodies : List (List ℕ)) (m : Manager) (made_then : List ℕ) where
    -- the manager, while the task's request is open
    abbrev opened : Manager
    opened = at_phase names (Open true task bodies) m

    abbrev there : manager.ManagerState (seen_plans names)
    there = seen_manager names made_then opened

    -- the machine takes an answer, or not
    abbrev taken : UndoAnswered → manager.ManagerStepResult (seen_plans names)
    taken a = manager.taken_or (seen_plans names) there (machine.reply_of (seen_words names) a there.machine)

    goes_there : (t : Turn) → opened.waits ≡ t.manager.waits → manager.goes_on (seen_plans names) there (seen_turn names t) ≡ seen_deed names made_then t
    goes_there t e = λ i. record { manager = record { machine = machine_of names t.manager; names = names; listed = Some names; joined = seen_as (e i) made_then }; sent = (seen_deed names made_then t).sent }

    carried_waits : (another : Option Asked) (task : Task) (bodies : List (List ℕ)) (m : Manager) → m.waits ≡ (carried_out another task bodies m).manager.waits
    carried_waits (Some asked) (Gets k op) bodies m = refl
    carried_waits (Some asked) (Sets k op back) bodies m = refl
    carried_waits (Some asked) (Undoes back rest) bodies m = refl
    carried_waits None (Gets k op) bodies m = refl
    carried_waits None (Sets k op back) bodies m = refl
    carried_waits None (Undoes back rest) bodies m = refl

    refused_waits : (task : Task) (code : ℕ) (m : Manager) → m.waits ≡ (refused task code m).manager.waits
    refused_waits (Gets k op) code m = refl
    refused_waits (Sets k op back) code m = refl
    refused_waits (Undoes back rest) code m = refl

    -- the turn that an answer makes
    abbrev turn_so : Answered → Turn
    turn_so a = turn_told names a opened bodies task

    waits_so : (a : Answered) → opened.waits ≡ (turn_so a).manager.waits
    waits_so a = at (a.code == success) (next_after (series_of task) (bodies_then names a opened bodies))
      where
        at : (ok : Bool) (another : Option Asked) → opened.waits ≡ (cond ok (carried_out another task (bodies_then names a opened bodies) (answered names task bodies opened)) (refused task a.code (answered names task bodies opened))).manager.waits
        at true another = carried_waits another task (bodies_then names a opened bodies) (answered names task bodies opened)
        at false another = refused_waits task a.code (answered names task bodies opened)

    answer_so : (a : Answered) (busy : Bool) → is_busy a.code ≡ busy
        → cond busy (manager.rests (seen_plans names) there) (taken (words_of a)) ≡ seen_deed names made_then (cond busy (rests opened) (turn_so a))
    answer_so a true e = refl
    answer_so a false e =
        ap (λ (b : Bool). manager.taken_or (seen_plans names) there (let none : Option (machine.Turn (seen_words names)) = None in cond b none (Some (machine.takes (seen_words names) (words_of a) (seen_task names task) (part_of names (asked_for names task bodies) bodies) there.machine)))) e
        ∙ ap (λ (t : machine.Turn (seen_words names)). manager.goes_on (seen_plans names) there t) (takes_turn names a opened bodies task)
        ∙ goes_there (turn_so a) (waits_so a)

    -- what comes of an answer
    pub answer_told : (o : Option Answered) → of_answer taken (manager.rests (seen_plans names) there) o ≡ seen_deed names made_then (answered_by names task bodies o opened)
    answer_told None = refl
    answer_told (Some a) = answer_so a (is_busy a.code) refl

    -- the request, where it is heeded on the bus
    abbrev heeds : Bus → Asked → Option (machine.Part (seen_words names))
    heeds on asked = let none : Option (machine.Part (seen_words names)) = None in cond (machine.same_bus on (machine.bus_at (seen_words names) (part_of names asked bodies))) (Some (part_of names asked bodies)) none

    -- ---- whole messages

    abbrev LowAsked : Asked → Type 0
    LowAsked (Ipmi from net_fn lun command body) = lun < 4
    LowAsked (Pldm from kind command body) = Unit {0}

    by_response : (r : Response) → IsLow names r.header → (asked : Asked) → LowAsked asked
        → manager.tested (seen_plans names) Ipmb (response_bytes r) there (heeds Ipmb asked) ≡ of_answer taken (manager.rests (seen_plans names) there) (answer_in (m.answered Ipmb) asked r)
    by_response r low (Ipmi from net_fn lun command body) lun_low =
        responses_alike taken (manager.rests (seen_plans names) there) (m.answered Ipmb) from net_fn lun command body r lun_low low.requester low.responder
    by_response r low (Pldm from kind command body) lun_low = refl

    managers_low : (asked : Asked) → IsManagers (addresses names) asked → LowAsked asked
    managers_low (Ipmi from net_fn lun command body) is = omega (arith, is.1)
    managers_low (Pldm from kind command body) is = tt

    task_low : (task : Task) → LowAsked (asked_for names task bodies)
    task_low task = managers_low (asked_for names task bodies) (managers (addresses names) (asked_for names task bodies) (task_made names task bodies))

    pub response_told : (r : Response) → IsLow names r.header → manager.hears_reply (seen_plans names) Ipmb (response_bytes r) there ≡ seen_deed names made_then (answered_by names task bodies (answer_in (m.answered Ipmb) (asked_for names task bodies) r) opened)
    response_told r low = by_response r low (asked_for names task bodies) (task_low task) ∙ answer_told (answer_in (m.answered Ipmb) (asked_for names task bodies) r)

    by_message : (reply : List ℕ) (asked : Asked)
        → manager.tested (seen_plans names) Smbus reply there (heeds Smbus asked) ≡ of_answer taken (manager.rests (seen_plans names) there) (read_in (m.answered Smbus) asked reply)
    by_message reply (Ipmi from net_fn lun command body) = refl
    by_message reply (Pldm from kind command body) = messages_alike taken (manager.rests (seen_plans names) there) (m.answered Smbus) from kind command body reply

    pub message_told : (reply : List ℕ) → manager.hears_reply (seen_plans names) Smbus reply there ≡ seen_deed names made_then (answered_by names task bodies (read_in (m.answered Smbus) (asked_for names task bodies) reply) opened)
    message_told reply = by_message reply (asked_for names task bodies) ∙ answer_told (read_in (m.answered Smbus) (asked_for names task bodies) reply)

  -- ---- packets

  module _ (task : Task) (bodies : List (List ℕ)) (m : Manager) (p : Packet) (orderly : IsOrderly m.waits) where
    abbrev kept : IsKept p m.waits made.manager orderly names.own_eid
    kept = is_kept p m.waits made.manager orderly names.own_eid

    -- with the packet
    abbrev joined_manager : Manager
    joined_manager = record m { waits = waits_after names.own_eid p m.waits }

    abbrev before_it : Manager
    before_it = opened task bodies m made.manager

    abbrev with_it : manager.ManagerState (seen_plans names)
    with_it = there task bodies joined_manager kept.made_then

    -- the turn that the packet makes
    abbrev turn_then : Bool → Turn
    turn_then ends = cond ends (answered_by names task bodies (read_in (m.answered Smbus) (asked_for names task bodies) (whole p m.waits)) (opened task bodies joined_manager kept.made_then)) (rests (opened task bodies joined_manager kept.made_then))

    message_is : (ends : Bool) → p.end ≡ ends → is_taken names.own_eid p m.waits ≡ true
        → cond ends (manager.hears_reply (seen_plans names) Smbus (cond p.start p.payload kept.made_then) with_it) (manager.rests (seen_plans names) with_it) ≡ seen_deed names kept.made_then (turn_then ends)
    message_is true e sure = ap (λ (reply : List ℕ). manager.hears_reply (seen_plans names) Smbus reply with_it) (kept.ends sure e) ∙ message_told task bodies joined_manager kept.made_then (whole p m.waits)
    message_is false e sure = refl

    by_cause : (cause : Option DropCause) (yes : Bool) → Agrees p m.waits made.manager orderly yes cause → is_taken names.own_eid p m.waits ≡ yes → manager.ends_reply (seen_plans names) p cause with_it ≡ seen_deed names kept.made_then (turn_then (yes && p.end))
    by_cause (Some cause) true agrees e = absurd agrees
    by_cause (Some cause) false agrees e = refl
    by_cause None true agrees e = message_is p.end refl e
    by_cause None false agrees e = absurd agrees

    joins_so : manager.joins (seen_plans names) p (there task bodies m made.manager) ≡ seen_deed names kept.made_then (turn_then (is_taken names.own_eid p m.waits && p.end))
    joins_so =
        ap (λ (a : Assemblies). manager.ends_reply (seen_plans names) p (drop_cause names.own_eid (seen_as m.waits made.manager) p) (record (there task bodies m made.manager) { joined = a })) kept.is
        ∙ by_cause (drop_cause names.own_eid (seen_as m.waits made.manager) p) (is_taken names.own_eid p m.waits) kept.agrees refl

    by_part : (b : Bool) → Lands (cond b (manager.joins (seen_plans names) p (there task bodies m made.manager)) (manager.rests (seen_plans names) (there task bodies m made.manager))) (cond (not b) (rests before_it) (turn_then (is_taken names.own_eid p m.waits && p.end)))
    by_part true = lands (manager.joins (seen_plans names) p (there task bodies m made.manager)) (turn_then (is_taken names.own_eid p m.waits && p.end)) kept.made_then joins_so
    by_part false = lands (manager.rests (seen_plans names) (there task bodies m made.manager)) (rests before_it) made.manager refl

    by_asked : (asked : Asked) → Lands (manager.joins_for (seen_plans names) p (there task bodies m made.manager) (heeds task bodies m made.manager Smbus asked)) (cond (not (is_part names (m.answered Smbus) asked p)) (rests before_it) (turn_then (is_taken names.own_eid p m.waits && p.end)))
    by_asked (Ipmi from net_fn lun command body) = lands (manager.rests (seen_plans names) (there task bodies m made.manager)) (rests before_it) made.manager refl
    by_asked (Pldm from kind command body) = by_part (is_part names (m.answered Smbus) (Pldm from kind command body) p)

    pub packet_lands : Lands (manager.hears_packet (seen_plans names) p (there task bodies m made.manager)) (hears names (Part p) (Open true task bodies) before_it)
    unfolding manager.hears_packet
    packet_lands = by_asked (asked_for names task bodies)

  -- ---- any frame

  -- a response is low
  abbrev pub LowValue : Value → Type 0
  LowValue (Tells r) = IsLow names r.header
  LowValue value = Unit {0}

  module _ (m : Manager) (orderly : IsOrderly m.waits) where
    abbrev Comes : Value → Phase → Type 0
    Comes v phase = Lands (manager.manager_hears (seen_plans names) (seen_value v) (seen_manager names made.manager (at_phase names phase m))) (hears names v phase (at_phase names phase m))

    nothing : (v : Value) (phase : Phase) → manager.manager_hears (seen_plans names) (seen_value v) (seen_manager names made.manager (at_phase names phase m)) ≡ manager.rests (seen_plans names) (seen_manager names made.manager (at_phase names phase m))
        → hears names v phase (at_phase names phase m) ≡ rests (at_phase names phase m) → Comes v phase
    nothing v phase d t =
        lands (manager.manager_hears (seen_plans names) (seen_value v) (seen_manager names made.manager (at_phase names phase m))) (hears names v phase (at_phase names phase m)) made.manager
        (d ∙ ap (seen_deed names made.manager) (sym t))

    ignored : (r : Response) (phase : Phase) → manager.heeded_on (seen_plans names) Ipmb (stage_of names phase) ≡ None
        → manager.hears_response (seen_plans names) r (seen_manager names made.manager (at_phase names phase m)) ≡ manager.rests (seen_plans names) (seen_manager names made.manager (at_phase names phase m))
    unfolding manager.hears_response
    ignored r phase e =
        (λ i. cond ((r.header.requester.address == names.own_address && r.header.responder.address == names.peer_address)) (manager.tested (seen_plans names) Ipmb (response_bytes r) (seen_manager names made.manager (at_phase names phase m)) (e i)) (manager.rests (seen_plans names) (seen_manager names made.manager (at_phase names phase m))))
        ∙ sym (cond_same ((r.header.requester.address == names.own_address && r.header.responder.address == names.peer_address)) (manager.rests (seen_plans names) (seen_manager names made.manager (at_phase names phase m))))

    response_comes : (r : Response) (task : Task) (bodies : List (List ℕ)) → IsLow names r.header → Comes (Tells r) (Open true task bodies)
    unfolding manager.hears_response
    response_comes r task bodies low = at ((r.header.requester.address == names.own_address && r.header.responder.address == names.peer_address))
      where
        at : (b : Bool) → Lands (cond b (manager.hears_reply (seen_plans names) Ipmb (response_bytes r) (there task bodies m made.manager)) (manager.rests (seen_plans names) (there task bodies m made.manager))) (cond b (answered_by names task bodies (answer_in (m.answered Ipmb) (asked_for names task bodies) r) (opened task bodies m made.manager)) (rests (opened task bodies m made.manager)))
        at true = lands (manager.hears_reply (seen_plans names) Ipmb (response_bytes r) (there task bodies m made.manager)) (answered_by names task bodies (answer_in (m.answered Ipmb) (asked_for names task bodies) r) (opened task bodies m made.manager)) made.manager (response_told task bodies m made.manager r low)
        at false = lands (manager.rests (seen_plans names) (there task bodies m made.manager)) (rests (opened task bodies m made.manager)) made.manager refl

    unheard : (p : Packet) (phase : Phase) → manager.heeded_on (seen_plans names) Smbus (stage_of names phase) ≡ None
        → manager.hears_packet (seen_plans names) p (seen_manager names made.manager (at_phase names phase m)) ≡ manager.rests (seen_plans names) (seen_manager names made.manager (at_phase names phase m))
    unfolding manager.hears_packet
    unheard p phase e = ap (manager.joins_for (seen_plans names) p (seen_manager names made.manager (at_phase names phase m))) e

    pub comes : (v : Value) → LowValue v → (phase : Phase) → Comes v phase
    comes (Asks r) low phase = nothing (Asks r) phase refl refl
    comes (Tells r) low Fresh = nothing (Tells r) Fresh (ignored r Fresh refl) refl
    comes (Tells r) low (Open true task bodies) = response_comes r task bodies low
    comes (Tells r) low (Open false task bodies) = nothing (Tells r) (Open false task bodies) (ignored r (Open false task bodies) refl) refl
    comes (Tells r) low Done = nothing (Tells r) Done (ignored r Done refl) refl
    comes (Tells r) low (Halted k why) = nothing (Tells r) (Halted k why) (ignored r (Halted k why) refl) refl
    comes (Tells r) low Undone = nothing (Tells r) Undone (ignored r Undone refl) refl
    comes (Tells r) low (UndoRefused k code) = nothing (Tells r) (UndoRefused k code) (ignored r (UndoRefused k code) refl) refl
    comes (Part p) low Fresh = nothing (Part p) Fresh (unheard p Fresh refl) refl
    comes (Part p) low (Open true task bodies) = packet_lands task bodies m p orderly
    comes (Part p) low (Open false task bodies) = nothing (Part p) (Open false task bodies) (unheard p (Open false task bodies) refl) refl
    comes (Part p) low Done = nothing (Part p) Done (unheard p Done refl) refl
    comes (Part p) low (Halted k why) = nothing (Part p) (Halted k why) (unheard p (Halted k why) refl) refl
    comes (Part p) low Undone = nothing (Part p) Undone (unheard p Undone refl) refl
    comes (Part p) low (UndoRefused k code) = nothing (Part p) (UndoRefused k code) (unheard p (UndoRefused k code) refl) refl
