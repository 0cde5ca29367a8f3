-- What a manager hears is heard as the machine hears it.
use Rattle.std.proofs.Common.{◌≡◌, ℕ, ◌+◌, ◌*◌, ◌/◌, ◌%◌, ◌<◌, ◌==◌, ◌&&◌, not, Bool, true, false, if◌then◌else◌, List, ◌∷◌, Option, Some, None, Result, Ok, Err, ◌↔◌, refl, sym, ◌∙◌, ap, subst, arith, inl, inr}
use Rattle.std.proofs.lemmas.Bool.{cases_Bool, eqb-true, eq-eqb, true≢false}
use Rattle.two_wire.specs.declared.Bus.{Bus}
use Rattle.two_wire.specs.declared.Bus.TheVariants.{Ipmb, Smbus}
use Rattle.ipmb_frame.specs.declared.message.Response.{Response}
use Rattle.ipmb_frame.specs.declared.message.Msg.{Msg}
use Rattle.ipmb_frame.specs.declared.message.Msg.TheVariants as msg
use Rattle.ipmb_frame.specs.declared.fault.FrameFault.{FrameFault}
use Rattle.mctp_net.specs.declared.fault.PacketFault.{PacketFault}
use Rattle.record_base.specs.declared.op.Op.{Op}
use Rattle.record_base.specs.declared.message.Asked.{Asked}
use Rattle.record_base.specs.declared.message.Asked.TheVariants.{Ipmi, Pldm}
use Rattle.mctp_net.specs.declared.packet.Packet.{Packet}
use Rattle.mctp_net.specs.declared.taken.DropCause.{DropCause}
use Rattle.mctp_net.specs.declared.taken.Taken.{Taken}
use Rattle.mctp_net.specs.declared.taken.Taken.TheVariants as taken
use Rattle.mctp_net.specs.Assembly.{Assemblies, drop_cause, after as kept_after, message_of, IsPieceTaken}
use Rattle.pldm_base.specs.declared.message.PldmReply.{PldmReply}
use Rattle.pldm_base.specs.Message.{IsReply}
use Rattle.undo_plans.specs.declared.names.Names.{Names}
use Rattle.undo_plans.specs.Requests.{RequestList}
use Rattle.model_bus.specs.Bytes.{answers, ipmb_answers, pldm_answers, is_busy_code}
use Rattle.bmc_core.specs.Wires.{bus_of, bytes_of, answered_from}
use Rattle.model_bus.specs.Answered.{Answered}
use Rattle.model_undo.specs.Words.{is_busy}
use Rattle.model_undo.specs.Wires.{number_of}
use Rattle.model_undo.specs.Machine as machine
use Rattle.bmc_core.specs.Bytes.{response_bytes}
use Rattle.model_lab.specs.ManagerSteps.{board_plans, ManagerState, heeded_on, tested, rests, taken_or, is_answer, is_part, hears_response, hears_reply, hears_packet, joins_for, joins, ends_reply}
use Rattle.undo_core.specs.declared.stage.Task.{Task}
use Rattle.undo_core.specs.declared.stage.Stage.{Stage}
use Rattle.undo_core.specs.declared.stage.Stage.TheVariants as stage
use Rattle.undo_core.specs.declared.manager.Manager.{Manager}
use Rattle.undo_core.proofs.Replies.{own_bus}
use Rattle.undo_core.specs.Shown.{words_of, own, IsStage, Represents, taken_if}

-- ---- the test on bytes, by fields

high : (n lun : ℕ) → lun < 4 → (4 * n + lun) / 4 ≡ n
high n lun below = omega (arith, below)

same_next : (m n : ℕ) → (m + 1 == n + 1) ≡ (m == n)
same_next m n = elim (cases_Bool (m + 1 == n + 1)) [
  | inl t ↦ let e : m ≡ n = omega (arith, eqb-true (m + 1) (n + 1) t) in t ∙ sym (eq-eqb m n e)
  | inr f ↦ elim (cases_Bool (m == n)) [
    | inl t ↦ absurd (true≢false (sym (eq-eqb (m + 1) (n + 1) (ap (λ (k : ℕ). k + 1) (eqb-true m n t))) ∙ f))
    | inr g ↦ f ∙ sym g
  ]
]

regroup : (a b c d : Bool) → ((a && b) && (c && d)) ≡ ((a && b && c) && d)
regroup true true c d = refl
regroup true false c d = refl
regroup false b c d = refl

regroup_three : (a b c d : Bool) → (a && ((b && c) && d)) ≡ ((a && b && c) && d)
regroup_three true b c d = refl
regroup_three false b c d = refl

pub ipmb_by_fields : (asked_fn lun asked_command sequence : ℕ) (body : List ℕ) (r : Response) → lun < 4 → r.header.requester.lun < 4 → r.header.responder.lun < 4 → (from : ℕ)
    → ipmb_answers (bytes_of sequence (Ipmi from asked_fn lun asked_command body)) (response_bytes r)
    ≡ ((r.header.net_fn == asked_fn && r.header.sequence == sequence && r.header.command == asked_command) && not (is_busy_code r.code))
ipmb_by_fields asked_fn lun asked_command sequence body r in_lun in_requester in_responder from =
    let h = r.header in
    let bits : (4 * sequence + 0) / 4 ≡ sequence = omega arith in
    (λ i. ((high (h.net_fn + 1) h.requester.lun in_requester i == high asked_fn lun in_lun i + 1) && (high h.sequence h.responder.lun in_responder i == bits i))
    && ((h.command == asked_command) && not (is_busy_code r.code)))
    ∙ ap (λ (b : Bool). (b && (h.sequence == sequence)) && ((h.command == asked_command) && not (is_busy_code r.code))) (same_next h.net_fn asked_fn)
    ∙ regroup (h.net_fn == asked_fn) (h.sequence == sequence) (h.command == asked_command) (not (is_busy_code r.code))

-- the message of PLDM, behind whose type the bytes are read as the reply
pub pldm_by_fields : (names : Names) (from kind command instance : ℕ) (body : List ℕ) (r : PldmReply) (bytes : List ℕ) → instance < 32 → IsReply r bytes
    → pldm_answers (bytes_of instance (own names (Pldm from kind command body))) (1 ∷ bytes)
    ≡ ((r.header.instance == instance && r.header.pldm_type == kind && r.header.command == command) && not (is_busy_code r.code))
pldm_by_fields names from kind command instance body r bytes below is =
    let h = r.header in
    let spelled = is.1 in
    let clear : (128 * 0 + 32 * is.0 + h.instance) / 64 ≡ 0 = omega (arith, spelled.bit, spelled.header.instance) in
    let low : (128 * 0 + 32 * is.0 + h.instance) % 32 ≡ h.instance = omega (arith, spelled.header.instance) in
    let opened : (128 + instance) % 32 ≡ instance = omega (arith, below) in
    ap (λ (read : List ℕ). pldm_answers (bytes_of instance (own names (Pldm from kind command body))) (1 ∷ read)) spelled.spelled
    ∙ (λ i. ((clear i == 0) && (low i == opened i)) && (((h.pldm_type == kind) && (h.command == command)) && not (is_busy_code r.code)))
    ∙ regroup_three (h.instance == instance) (h.pldm_type == kind) (h.command == command) (not (is_busy_code r.code))

-- ---- the open request

-- it is the one that the machine heeds on its bus
abbrev pub Heeds : (names : Names) → Bus → Asked → machine.Stage (words_of names) → Type 0
Heeds names on asked t = (part : machine.Part (words_of names)) × (heeded_on (board_plans names) on t ≡ Some part) × (own names asked ≡ part.asked)

same_is_true : (on : Bus) → machine.same_bus on on ≡ true
same_is_true Ipmb = refl
same_is_true Smbus = refl

heeds_stage : (names : Names) (plan : List Op) (requests : RequestList) (replies : List ℕ) (on : Bus) (r : Task) (parts : ℕ) (asked : Asked) (t : machine.Stage (words_of names))
    → IsStage names plan requests replies (stage.Opened true r parts asked) t → bus_of asked ≡ on → Heeds names on asked t
heeds_stage names plan requests replies on r parts asked machine.AtStart is goes = absurd is
heeds_stage names plan requests replies on r parts asked (machine.Opened heeds of part) is goes =
    let same : machine.same_bus on (bus_of part.asked) ≡ true = ap (machine.same_bus on) (ap bus_of (sym is.4) ∙ own_bus names asked ∙ goes) ∙ same_is_true on in (
      part,
      ap (λ (h : Bool). heeded_on (board_plans names) on (machine.Opened h of part)) is.0 ∙ ap (λ (b : Bool). if b then Some part else None) same,
      is.4,
    )
heeds_stage names plan requests replies on r parts asked machine.AtEnd is goes = absurd is
heeds_stage names plan requests replies on r parts asked (machine.AtHalt k why) is goes = absurd is
heeds_stage names plan requests replies on r parts asked machine.AtUndone is goes = absurd is
heeds_stage names plan requests replies on r parts asked (machine.AtRefused k code) is goes = absurd is

-- a busy controller's reply is none
pub busy_is_none : (names : Names) (a : Answered) (t : machine.Stage (words_of names)) (m : machine.Machine (words_of names)) → is_busy a.code ≡ true → machine.replies (words_of names) a t m ≡ None
busy_is_none names a machine.AtStart m busy = refl
busy_is_none names a (machine.Opened true of part) m busy = ap (λ (b : Bool). if b then None else Some (machine.takes (words_of names) a of part m)) busy
busy_is_none names a (machine.Opened false of part) m busy = refl
busy_is_none names a machine.AtEnd m busy = refl
busy_is_none names a (machine.AtHalt k why) m busy = refl
busy_is_none names a machine.AtUndone m busy = refl
busy_is_none names a (machine.AtRefused k code) m busy = refl

either : {A : Type 0} (mine passes busy : Bool) (x r : A) → (busy ≡ true → x ≡ r)
    → (if mine then (if passes && not busy then x else r) else r) ≡ (if mine && passes then x else r)
either true true true x r same = sym (same refl)
either true true false x r same = refl
either true false busy x r same = refl
either false passes busy x r same = refl

-- ---- a response

pub heard_response : (names : Names) (m : Manager) (s : ManagerState (board_plans names)) (r : Response) (t : Task) (parts : ℕ) (asked : Asked) (passes : Bool) → Represents names m s
    → m.stage ≡ stage.Opened true t parts asked → bus_of asked ≡ Ipmb
    → ipmb_answers (bytes_of (m.counts.ipmb % 64) (own names asked)) (response_bytes r) ≡ (passes && not (is_busy_code r.code))
    → hears_response (board_plans names) r s ≡ taken_if names (is_answer m.names r && passes) (record { code = r.code; body = r.body }) s
unfolding hears_response
heard_response names m s r t parts asked passes shows was goes test =
    let P = board_plans names in
    let a : Answered = record { code = r.code; body = r.body } in
    let is : Heeds names Ipmb asked s.machine.stage =
    heeds_stage names m.steps m.undo.requests m.replies Ipmb t parts asked s.machine.stage (subst (λ (x : Stage). IsStage names m.steps m.undo.requests m.replies x s.machine.stage) was shows.stage) goes in
    let taken = taken_or P s (machine.reply_of (words_of names) a s.machine) in
    let tests : answers Ipmb (bytes_of (number_of Ipmb s.machine.counts.ipmb) is.0.asked) (response_bytes r) ≡ (passes && not (is_busy_code r.code)) =
    (λ i. ipmb_answers (bytes_of ((shows.counts i).ipmb % 64) (sym is.2 i)) (response_bytes r)) ∙ test in
    ap (λ (o : Option (machine.Part (words_of names))). if is_answer s.names r then tested P Ipmb (response_bytes r) s o else rests P s) is.1
    ∙ (λ i. if is_answer ((shows.is_named ∙ sym shows.named) i) r then (if tests i then taken else rests P s) else rests P s)
    ∙ either (is_answer m.names r) passes (is_busy_code r.code) taken (rests P s) (λ busy. ap (taken_or P s) (busy_is_none names a s.machine.stage s.machine busy))

-- no request is heeded on the bus
none_stage : (names : Names) (plan : List Op) (requests : RequestList) (replies : List ℕ) (on : Bus) (r : Stage) (t : machine.Stage (words_of names)) → IsStage names plan requests replies r t
    → ((k : Task) (parts : ℕ) (asked : Asked) → r ≡ stage.Opened true k parts asked → bus_of asked ≡ on → ⊥) → heeded_on (board_plans names) on t ≡ None
none_stage names plan requests replies on r machine.AtStart is other = refl
none_stage names plan requests replies on (stage.Opened heeded k parts asked) (machine.Opened false of part) is other = refl
none_stage names plan requests replies on (stage.Opened heeded k parts asked) (machine.Opened true of part) is other = at on (bus_of part.asked) (λ same.
    other k parts asked (ap (λ (h : Bool). stage.Opened h k parts asked) (sym is.0)) (sym (own_bus names asked) ∙ ap bus_of is.4 ∙ same)) where
      at : (on goes : Bus) → (goes ≡ on → ⊥) → (if machine.same_bus on goes then Some part else None) ≡ None
      at Ipmb Ipmb apart = absurd (apart refl)
      at Ipmb Smbus apart = refl
      at Smbus Ipmb apart = refl
      at Smbus Smbus apart = absurd (apart refl)
none_stage names plan requests replies on stage.AtStart (machine.Opened heeds of part) is other = absurd is
none_stage names plan requests replies on stage.AtEnd (machine.Opened heeds of part) is other = absurd is
none_stage names plan requests replies on (stage.AtHalt k why) (machine.Opened heeds of part) is other = absurd is
none_stage names plan requests replies on stage.AtUndone (machine.Opened heeds of part) is other = absurd is
none_stage names plan requests replies on (stage.AtRefused k code) (machine.Opened heeds of part) is other = absurd is
none_stage names plan requests replies on r machine.AtEnd is other = refl
none_stage names plan requests replies on r (machine.AtHalt k why) is other = refl
none_stage names plan requests replies on r machine.AtUndone is other = refl
none_stage names plan requests replies on r (machine.AtRefused k code) is other = refl

pub no_response : (names : Names) (m : Manager) (s : ManagerState (board_plans names)) (r : Response) → Represents names m s
    → ((k : Task) (parts : ℕ) (asked : Asked) → m.stage ≡ stage.Opened true k parts asked → bus_of asked ≡ Ipmb → ⊥) → hears_response (board_plans names) r s ≡ rests (board_plans names) s
unfolding hears_response
no_response names m s r shows other =
    ap (λ (o : Option (machine.Part (words_of names))). if is_answer s.names r then tested (board_plans names) Ipmb (response_bytes r) s o else rests (board_plans names) s)
    (none_stage names m.steps m.undo.requests m.replies Ipmb m.stage s.machine.stage shows.stage other)
    ∙ at (is_answer s.names r) where
      at : (b : Bool) → (if b then rests (board_plans names) s else rests (board_plans names) s) ≡ rests (board_plans names) s
      at true = refl
      at false = refl

-- one from elsewhere is nothing
pub other_response : (names : Names) (m : Manager) (s : ManagerState (board_plans names)) (r : Response) → Represents names m s → is_answer m.names r ≡ false
    → hears_response (board_plans names) r s ≡ rests (board_plans names) s
unfolding hears_response
other_response names m s r shows other =
    (λ i. if is_answer ((shows.is_named ∙ sym shows.named) i) r then hears_reply (board_plans names) Ipmb (response_bytes r) s else rests (board_plans names) s)
    ∙ ap (λ (b : Bool). if b then hears_reply (board_plans names) Ipmb (response_bytes r) s else rests (board_plans names) s) other

-- ---- a message

-- no request is heeded
pub no_message : (names : Names) (m : Manager) (s : ManagerState (board_plans names)) (bytes : List ℕ) → Represents names m s
    → ((k : Task) (parts : ℕ) (asked : Asked) → m.stage ≡ stage.Opened true k parts asked → bus_of asked ≡ Smbus → ⊥) → hears_reply (board_plans names) Smbus bytes s ≡ rests (board_plans names) s
no_message names m s bytes shows other =
    ap (tested (board_plans names) Smbus bytes s) (none_stage names m.steps m.undo.requests m.replies Smbus m.stage s.machine.stage shows.stage other)

-- the open request is replied to, or not
pub heard_message : (names : Names) (m : Manager) (s : ManagerState (board_plans names)) (bytes : List ℕ) (t : Task) (parts : ℕ) (asked : Asked) (passes : Bool) (a : Answered) → Represents names m s
    → m.stage ≡ stage.Opened true t parts asked → bus_of asked ≡ Smbus → answered_from Smbus bytes ≡ a
    → pldm_answers (bytes_of (m.counts.smbus % 32) (own names asked)) bytes ≡ (passes && not (is_busy_code a.code))
    → hears_reply (board_plans names) Smbus bytes s ≡ taken_if names passes a s
heard_message names m s bytes t parts asked passes a shows was goes says test =
    let P = board_plans names in
    let is : Heeds names Smbus asked s.machine.stage =
    heeds_stage names m.steps m.undo.requests m.replies Smbus t parts asked s.machine.stage (subst (λ (x : Stage). IsStage names m.steps m.undo.requests m.replies x s.machine.stage) was shows.stage) goes in
    let taken = taken_or P s (machine.reply_of (words_of names) a s.machine) in
    let tests : answers Smbus (bytes_of (number_of Smbus s.machine.counts.smbus) is.0.asked) bytes ≡ (passes && not (is_busy_code a.code)) =
    (λ i. pldm_answers (bytes_of ((shows.counts i).smbus % 32) (sym is.2 i)) bytes) ∙ test in
    ap (tested P Smbus bytes s) is.1
    ∙ (λ i. if tests i then taken_or P s (machine.reply_of (words_of names) (says i) s.machine) else rests P s)
    ∙ either true passes (is_busy_code a.code) taken (rests P s) (λ busy. ap (taken_or P s) (busy_is_none names a s.machine.stage s.machine busy))

-- ---- a packet

-- no request is heeded
pub no_packet : (names : Names) (m : Manager) (s : ManagerState (board_plans names)) (p : Packet) → Represents names m s
    → ((k : Task) (parts : ℕ) (asked : Asked) → m.stage ≡ stage.Opened true k parts asked → bus_of asked ≡ Smbus → ⊥) → hears_packet (board_plans names) p s ≡ rests (board_plans names) s
unfolding hears_packet
no_packet names m s p shows other =
    ap (joins_for (board_plans names) p s) (none_stage names m.steps m.undo.requests m.replies Smbus m.stage s.machine.stage shows.stage other)

-- one is heeded
pub heard_packet : (names : Names) (m : Manager) (s : ManagerState (board_plans names)) (p : Packet) (t : Task) (parts : ℕ) (asked : Asked) → Represents names m s
    → m.stage ≡ stage.Opened true t parts asked → bus_of asked ≡ Smbus
    → hears_packet (board_plans names) p s ≡ (if is_part m.names m.counts.smbus p then joins (board_plans names) p s else rests (board_plans names) s)
unfolding hears_packet
heard_packet names m s p t parts asked shows was goes =
    let P = board_plans names in
    let is : Heeds names Smbus asked s.machine.stage =
    heeds_stage names m.steps m.undo.requests m.replies Smbus t parts asked s.machine.stage (subst (λ (x : Stage). IsStage names m.steps m.undo.requests m.replies x s.machine.stage) was shows.stage) goes in
    ap (joins_for P p s) is.1
    ∙ (λ i. if is_part ((shows.is_named ∙ sym shows.named) i) (shows.counts i).smbus p then joins P p s else rests P s)

-- the manager once a packet was joined to those that wait
abbrev pub joined_with : (names : Names) → Packet → ManagerState (board_plans names) → ManagerState (board_plans names)
joined_with names p s = record s { joined = kept_after s.names.own_eid s.joined p }

-- a packet that isn't dropped, and is an end, ends a message
pub whole_joins : (names : Names) (s : ManagerState (board_plans names)) (p : Packet) → drop_cause s.names.own_eid s.joined p ≡ None → p.end ≡ true
    → joins (board_plans names) p s ≡ hears_reply (board_plans names) Smbus (message_of (kept_after s.names.own_eid s.joined p) p).body (joined_with names p s)
whole_joins names s p none ended =
    let after = joined_with names p s in
    ap (λ (o : Option DropCause). ends_reply (board_plans names) p o after) none
    ∙ ap (λ (b : Bool). if b then hears_reply (board_plans names) Smbus (message_of after.joined p).body after else rests (board_plans names) after) ended

is_whole : Taken → Bool
is_whole taken.Waiting = false
is_whole taken.Whole = true
is_whole (taken.Dropped cause) = false

-- a packet that makes a message whole is an end
pub whole_ends : (own : ℕ) (a : Assemblies) (p : Packet) → drop_cause own a p ≡ None → (taken.Whole ≡ taken.Waiting) ↔ IsPieceTaken own a p → p.end ≡ true
unfolding is_whole
whole_ends at a p none waits = elim (cases_Bool p.end) [
  | inl t ↦ t
  | inr f ↦ absurd (true≢false (ap is_whole (waits.1 (record { kept_on = none; more = f }))))
]

-- ---- a frame

-- what was read, or else this
abbrev pub response_read : Response → Result Msg FrameFault → Response
response_read other (Ok (msg.Response r)) = r
response_read other (Ok (msg.Request r)) = other
response_read other (Err fault) = other

abbrev pub packet_read : Packet → Result Packet PacketFault → Packet
packet_read other (Ok p) = p
packet_read other (Err fault) = other

-- a packet was read
abbrev pub is_packet_read : Result Packet PacketFault → Bool
is_packet_read (Ok p) = true
is_packet_read (Err fault) = false
