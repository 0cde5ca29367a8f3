-- The machine that a manager shows, and the packets that wait at it.
use Rattle.std.specs.Prelude.{◌≡◌, ◌≢◌, Result, Ok, Err, ℕ, suc, ◌<◌, ◌≤◌, Bool, ◌==◌, ◌&&◌, not, List, ◌∷◌, length, map, take, reverse, Option, Some, None, slice_get, if◌then◌else◌}
use Rattle.std.specs.List.{AllZip}
use Rattle.std.specs.Option.{option_map}
use Rattle.two_wire.specs.declared.Bus.TheVariants.{Ipmb, Smbus}
use Rattle.two_wire.specs.Retries.{most_retries}
use Rattle.ipmb_frame.specs.declared.message.Response.{Response}
use Rattle.ipmb_frame.specs.Grammar.{IsResponse}
use Rattle.record_base.specs.declared.op.Op.{Op}
use Rattle.record_base.specs.declared.message.Asked.{Asked}
use Rattle.record_kinds.specs.Series.{Series, Sends, set_whole}
use Rattle.undo_plans.specs.declared.names.Names.{Names}
use Rattle.undo_plans.specs.declared.undo_list.UndoList.{UndoList}
use Rattle.undo_plans.specs.Requests.{RequestList}
use Rattle.mctp_net.specs.declared.packet.Packet.{Packet}
use Rattle.pldm_base.specs.declared.message.Header.{Header}
use Rattle.mctp_net.specs.Grammar.{IsPacket}
use Rattle.mctp_net.specs.Assembly.{nothing}
use Rattle.mctp_net.specs.Places.{seen}
use Rattle.model_bus.specs.Answered.{Answered}
use Rattle.model_bus.specs.Bytes.{ipmb_answers, pldm_answers}
use Rattle.model_undo.specs.Words.{Words, is_busy}
use Rattle.model_undo.specs.Machine as machine
use Rattle.model_undo.specs.Machine.{reply_of}
use Rattle.model_undo.specs.Resume.{resumed}
use Rattle.model_undo.specs.Wires.{number_of}
use Rattle.undo_core.specs.declared.phase.WrongPhase.{WrongPhase}
use Rattle.model_lab.specs.ManagerWords.{from_manager}
use Rattle.bmc_core.specs.Bytes.{response_bytes}
use Rattle.bmc_core.specs.Wires.{bus_of, bytes_of, answered_from}
use Rattle.bmc_core.specs.Values.{written, IsFrameOn}
use Rattle.model_undo.specs.declared.call.Call.{Call}
use Rattle.model_lab.specs.ManagerSteps.{addresses, board_plans, Sent as AllSent, ManagerState, ManagerStepResult, sent_of, called, remade, rests, taken_or, hears_reply, hears_response, hears_packet, joins}
use Rattle.undo_core.specs.declared.entering.Reply.{Reply}
use Rattle.undo_core.specs.declared.stage.Task.{Task}
use Rattle.undo_core.specs.declared.stage.Task.TheVariants as task
use Rattle.undo_core.specs.declared.stage.Stage.{Stage}
use Rattle.undo_core.specs.declared.stage.Stage.TheVariants as stage
use Rattle.undo_core.specs.declared.sending.Sent.{Sent}
use Rattle.undo_core.specs.declared.manager.Manager.{Manager}
use Rattle.undo_core.specs.Counted.{counts_of}
use Rattle.undo_core.specs.Joining.{AreJoined}

-- the words of a manager with these names
abbrev pub words_of : Names → Words
words_of names = (board_plans names).words

-- a request as the machine has it: from the manager
abbrev pub own : Names → Asked → Asked
own names asked = from_manager (addresses names) asked

-- a list has names, and they aren't these
abbrev pub AreOthers : Names → Option Names → Type 0
AreOthers names None = ⊥
AreOthers names (Some listed) = listed ≢ names

-- the number of retries is taken, and the list's names are others
abbrev pub IsForOthers : (listed : Option Names) → Names → (retries : ℕ) → Type 0
IsForOthers listed names retries = (retries ≤ most_retries) × AreOthers names listed

-- the series that carry these requests out, the last first
abbrev pub backs : List Asked → List Series
backs requests = map Sends (reverse requests)

-- A task of the manager is this task of the machine, of the plan, with these requests that undo. The request that undoes a step waits while the step
-- is carried out.
abbrev pub IsTask : (names : Names) → List Op → RequestList → Task → machine.Task (words_of names) → Type 0
IsTask names plan requests (task.Gets step) (machine.Gets place op) = (place ≡ step) × (slice_get plan step ≡ Some op)
IsTask names plan requests (task.Sets step) (machine.Sets place op undo) = (place ≡ step) × (slice_get plan step ≡ Some op) × (requests.waiting ≡ Some (set_whole undo))
IsTask names plan requests (task.Undoes step) (machine.Undoes first rest) = (step < length requests.members) × (backs (take (suc step) requests.members) ≡ first ∷ rest)
IsTask names plan requests _ _ = ⊥

-- these replies came to a Get, and this is what they show together
abbrev pub IsGot : Task → (replies : List ℕ) → (before : List (List ℕ)) → Type 0
IsGot (task.Gets step) replies before = AreJoined replies before
IsGot _ replies before = Unit {0}

-- a stage of the manager is this stage of the machine
abbrev pub IsStage : (names : Names) → List Op → RequestList → (replies : List ℕ) → Stage → machine.Stage (words_of names) → Type 0
IsStage names plan requests replies stage.AtStart machine.AtStart = Unit {0}
IsStage names plan requests replies (stage.Opened heeded task parts asked) (machine.Opened heeds of part) =
    (heeds ≡ heeded) × IsTask names plan requests task of × (length part.before ≡ parts) × IsGot task replies part.before × (own names asked ≡ part.asked)
IsStage names plan requests replies stage.AtEnd machine.AtEnd = Unit {0}
IsStage names plan requests replies (stage.AtHalt step why) (machine.AtHalt place cause) = (place ≡ step) × (cause ≡ why)
IsStage names plan requests replies stage.AtUndone machine.AtUndone = Unit {0}
IsStage names plan requests replies (stage.AtRefused step code) (machine.AtRefused place number) = (place ≡ step) × (number ≡ code)
IsStage names plan requests replies _ _ = ⊥

-- this holds of each task of the machine that the task is
abbrev pub ForTask : Task → ((names : Names) → machine.Task (words_of names) → Type 0) → Type 0
ForTask task Holds = (names : Names) (plan : List Op) (requests : RequestList) (of : machine.Task (words_of names)) → IsTask names plan requests task of → Holds names of

-- this holds of each stage of the machine that the stage is
abbrev pub ForStage : Stage → ((names : Names) → machine.Stage (words_of names) → Type 0) → Type 0
ForStage stage Holds = (names : Names) (plan : List Op) (requests : RequestList) (replies : List ℕ) (at : machine.Stage (words_of names)) → IsStage names plan requests replies stage at → Holds names at

-- the manager shows this machine, and these packets wait at it
pub record Represents (names : Names) (manager : Manager) (state : ManagerState (board_plans names)) : Type 0 where
  pub named : manager.names ≡ names
  pub is_named : state.names ≡ names
  pub listed : state.listed ≡ manager.undo.names
  pub plan : state.machine.plan ≡ manager.steps
  pub retries : state.machine.retries ≡ manager.retries
  pub stage : IsStage names manager.steps manager.undo.requests manager.replies manager.stage state.machine.stage
  pub stopped : state.machine.stopped ≡ manager.stopped
  pub resent : state.machine.resent ≡ manager.resent
  pub undo : state.machine.undo ≡ backs manager.undo.requests.members
  pub counts : state.machine.counts ≡ counts_of manager.counts
  pub sequence : manager.undo.next.ipmb ≡ number_of Ipmb manager.counts.ipmb
  pub instance : manager.undo.next.smbus ≡ number_of Smbus manager.counts.smbus
  pub joined : state.joined ≡ seen manager.joined

-- a manager that was opened with a plan
abbrev pub opened_with : (names : Names) → (plan : List Op) → (retries : ℕ) → ManagerState (board_plans names)
opened_with names plan retries = record { machine = machine.opened (words_of names) plan retries; names = names; listed = Some names; joined = nothing }

-- a manager that goes on from a list of requests that undo
abbrev pub resumed_from : (names : Names) → UndoList → (retries : ℕ) → ManagerState (board_plans names)
resumed_from names list retries = record {
  machine = resumed (words_of names) retries (record { series = backs list.requests.members; next = record { ipmb = list.next.ipmb; smbus = list.next.smbus } });
  names = names;
  listed = list.names;
  joined = nothing;
}

-- the list is this manager's: its requests that undo, the numbers of the next requests, and the names
pub record IsListOf (named : Names) (list : UndoList) (state : ManagerState (board_plans named)) : Type 0 where
  pub requests : backs list.requests.members ≡ state.machine.undo
  pub sequence : list.next.ipmb ≡ number_of Ipmb state.machine.counts.ipmb
  pub instance : list.next.smbus ≡ number_of Smbus state.machine.counts.smbus
  pub names : list.names ≡ state.listed

-- The manager sends what the machine sends: the frames of its values, on its bus, as that request. A reader of each frame gives its value.
abbrev pub IsSent : Option Sent → Option AllSent → Type 0
IsSent (Some sent) (Some all_sent) =
    (sent.bus ≡ all_sent.on) × (sent.request ≡ all_sent.request) × (sent.frames.items ≡ map written all_sent.values)
    × AllZip (IsFrameOn all_sent.on) all_sent.values sent.frames.items
IsSent None None = Unit {0}
IsSent _ _ = ⊥

-- the manager then shows the deed's manager, and sends what the deed sends
abbrev pub IsStepResult : (names : Names) → Manager → Option Sent → ManagerStepResult (board_plans names) → Type 0
IsStepResult names manager sent deed = Represents names manager deed.manager × IsSent sent deed.sent

-- this holds of each machine that the manager shows
abbrev pub ForRepresented : Manager → ((names : Names) → ManagerState (board_plans names) → Type 0) → Type 0
ForRepresented manager Holds = (names : Names) (state : ManagerState (board_plans names)) → Represents names manager state → Holds names state

-- Whatever machine the manager showed, it then shows the deed's manager, and sends what the deed sends.
abbrev pub DoesAs : ((names : Names) → ManagerState (board_plans names) → ManagerStepResult (board_plans names)) → Manager → Manager → Option Sent → Type 0
DoesAs deed old new sent = ForRepresented old (λ names s. IsStepResult names new sent (deed names s))

-- a call has the effect of the deed; where there is no deed, the call is refused and changes nothing
abbrev pub IsCalled : (names : Names) → ManagerState (board_plans names) → Manager → Result (Option Sent) WrongPhase → Option (ManagerStepResult (board_plans names)) → Type 0
IsCalled names before manager (Ok sent) (Some deed) = IsStepResult names manager sent deed
IsCalled names before manager (Err wrong) None = Represents names manager before
IsCalled names before manager _ _ = ⊥

-- whatever machine the manager showed, the call is the machine's
abbrev pub CallStep : Call → Manager → Manager → Result (Option Sent) WrongPhase → Type 0
CallStep call old new result = ForRepresented old (λ names s. IsCalled names s new result (called (board_plans names) call s))

-- whatever machine the manager showed, it then shows that of a manager that is made again
abbrev pub IsRemade : Manager → Manager → Type 0
IsRemade old new = ForRepresented old (λ names s. Represents names new (remade (board_plans names) s))

-- whatever machine the manager showed, it takes a reply that passed the test as the machine takes the reply
abbrev pub AcceptsReply : Answered → Manager → Manager → Option Sent → Type 0
AcceptsReply answered = DoesAs (λ names s. taken_or (board_plans names) s (reply_of (words_of names) answered s.machine))

-- the manager takes the controller's reply where the reply passed the test against the open request
abbrev pub taken_if : (names : Names) → Bool → Answered → ManagerState (board_plans names) → ManagerStepResult (board_plans names)
taken_if names passes answered state = if passes then taken_or (board_plans names) state (reply_of (words_of names) answered state.machine) else rests (board_plans names) state

-- whatever stage of the machine the manager is at, the manager sends what the machine sends as it enters that stage
abbrev pub SendsOpen : Manager → Option Sent → Type 0
SendsOpen manager sent = (names : Names) (plan : List Op) (requests : RequestList) (replies : List ℕ) (at : machine.Stage (words_of names)) → manager.names ≡ names
    → IsStage names plan requests replies manager.stage at
    → IsSent sent (option_map (sent_of (board_plans names) names) (machine.sends_at (words_of names) at (counts_of manager.counts)))

-- ---- what is heard

-- the answer that a response gives, and the answer that a reply gives
abbrev pub answered_by : Response → Answered
answered_by response = record { code = response.code; body = response.body }

abbrev pub answered_in : Reply → Answered
answered_in reply = record { code = reply.code; body = reply.body.now }

-- the test says whether the response answers this request on IPMB, under this number and whatever the names are
abbrev pub TellsResponse : Asked → (sequence : ℕ) → Response → Bool → Type 0
TellsResponse asked sequence response passes = (names : Names) → bus_of asked ≡ Ipmb → ipmb_answers (bytes_of sequence (own names asked)) (response_bytes response) ≡ passes

-- the test says whether the response answers this request, but for the codes of a busy port
abbrev pub TellsButForBusy : Asked → (sequence : ℕ) → Response → Bool → Type 0
TellsButForBusy asked sequence response passes = TellsResponse asked sequence response (passes && not (is_busy response.code))

-- and whether the message answers this request on SMBus
abbrev pub TellsMessage : Asked → (instance : ℕ) → (message : List ℕ) → Bool → Type 0
TellsMessage asked instance message passes = (names : Names) → bus_of asked ≡ Smbus → pldm_answers (bytes_of instance (own names asked)) message ≡ passes

-- the header has this instance, type and command
abbrev pub is_header_of : Header → (instance kind command : ℕ) → Bool
is_header_of header instance kind command = header.instance == instance && header.pldm_type == kind && header.command == command

-- the message gives the reply's answer, and answers this request unless the reply's code is that of a busy port
pub record IsReplyTo (asked : Asked) (instance : ℕ) (message : List ℕ) (reply : Reply) : Type 0 where
  pub answer : answered_from Smbus message ≡ answered_in reply
  pub tells : TellsMessage asked instance message (not (is_busy reply.code))

-- whatever machine the manager shows, the machine takes the response where it passed the test
abbrev pub IsTakenIf : Bool → Response → Manager → Type 0
IsTakenIf passes response manager = ForRepresented manager (λ names s. hears_response (board_plans names) response s ≡ taken_if names passes (answered_by response) s)

-- whatever machine the manager shows, the packet joins those that wait where it passed the test
abbrev pub IsJoinedIf : Bool → Packet → Manager → Type 0
IsJoinedIf passes packet manager =
    ForRepresented manager (λ names s. hears_packet (board_plans names) packet s ≡ (if passes then joins (board_plans names) packet s else rests (board_plans names) s))

-- whatever machine the manager showed, it hears the response, the packet or the message as the machine does
abbrev pub HearsResponse : Response → Manager → Manager → Option Sent → Type 0
HearsResponse response = DoesAs (λ names. hears_response (board_plans names) response)

abbrev pub HearsPacket : Packet → Manager → Manager → Option Sent → Type 0
HearsPacket packet = DoesAs (λ names. hears_packet (board_plans names) packet)

abbrev pub HearsMessage : (message : List ℕ) → Manager → Manager → Option Sent → Type 0
HearsMessage message = DoesAs (λ names. hears_reply (board_plans names) Smbus message)

-- the manager hears the response that the bytes are, or the packet
abbrev pub HearsResponseIn : (bytes : List ℕ) → Manager → Manager → Option Sent → Type 0
HearsResponseIn bytes old new sent = (response : Response) → IsResponse response bytes → HearsResponse response old new sent

abbrev pub HearsPacketIn : (bytes : List ℕ) → Manager → Manager → Option Sent → Type 0
HearsPacketIn bytes old new sent = (packet : Packet) → IsPacket packet bytes → HearsPacket packet old new sent

-- the manager stays as it was, and sends nothing
abbrev pub StaysSilent : Manager → Manager → Option Sent → Type 0
StaysSilent old new sent = (new ≡ old) × (sent ≡ None)

-- the bytes are no response, or no packet
abbrev pub IsNoResponse : (bytes : List ℕ) → Type 0
IsNoResponse bytes = (response : Response) → IsResponse response bytes → ⊥

abbrev pub IsNoPacket : (bytes : List ℕ) → Type 0
IsNoPacket bytes = (packet : Packet) → IsPacket packet bytes → ⊥
