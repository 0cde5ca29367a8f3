-- The model port that a port on IPMB represents, and what each call makes of it.
use Rattle.std.specs.Prelude.{◌≡◌, ℕ, ◌-◌, ◌<◌, List, [], ◌∷◌, Bool, true, false, length, take, drop, slice_index, map, Option, Some, None, Result, Ok, Err, refl}
use Rattle.ipmb_frame.specs.declared.message.Header.{Header}
use Rattle.ipmb_frame.specs.declared.message.Request.{Request}
use Rattle.ipmb_frame.specs.declared.message.Response.{Response}
use Rattle.ipmb_frame.specs.Grammar.{IsResponse}
use Rattle.record_base.specs.declared.message.Answered.{Answered}
use Rattle.cfg_records.specs.declared.board_file.BoardFile.{BoardFile}
use Rattle.model_bus.specs.Request.{Kept, Entry, Carried, Idled}
use Rattle.model_bus.specs.Numbering.{is_above}
use Rattle.model_bus.specs.Carried.{Outcome, Repeats, IsBusy, IsNew, outcome, log_after, reply_after}
use Rattle.two_wire.specs.Circles.{sequence_numbers}
use Rattle.two_wire.specs.declared.Bus.TheVariants.{Ipmb}
use Rattle.bmc_board.specs.declared.board.Board.{Board}
use Rattle.bmc_board.specs.State.{State, state_of}
use Rattle.bmc_core.specs.Keeps.{Reading, HeldWindows, WindowsKeep}
use Rattle.bmc_core.specs.Bytes.{heard_in}
use Rattle.bmc_core.specs.Values.{Value, Tells, written}
use Rattle.bmc_core.specs.PortSteps.{PortState, StepResult, stays, spelled, response_after, hears_request}
use Rattle.bmc_core.specs.declared.out.Out.{Out}
use Rattle.bmc_core.specs.declared.out.Reason.{Reason}
use Rattle.bmc_core.specs.declared.out.Disposition.{Disposition}
use Rattle.bmc_core.specs.declared.out.Disposition.TheVariants as done
use Rattle.bmc_core.specs.declared.step.Step.{Step}
use Rattle.bmc_core.specs.declared.step.Step.TheVariants as step
use Rattle.bmc_core.specs.declared.ipmb_port.IpmbPort.{IpmbPort}
use Rattle.bmc_core.specs.Outs.{sends, done_by, ReadBack}
use Rattle.bmc_core.specs.IpmbHeard.{IsHeard}

-- The windows keep a request as it is, and a reply as its frame: the reply is the frame's bytes without the addresses and the check bytes.
abbrev pub reading : Reading
reading = record { request = λ bytes. bytes; reply = λ kept. slice_index kept 1 ∷ drop 4 (take (length kept - 1) kept); same = λ one other. refl }

-- where the whole frame is looked at
abbrev pub whole : Reading
whole = record { request = λ bytes. bytes; reply = λ kept. kept; same = λ one other. refl }

-- the windows keep, for the request, the frame of a response to it, whichever address the request came to
pub record IsKeptResponse (kept : Kept) : Type 0 where
  pub request : Request
  pub code : ℕ
  pub body : List ℕ
  pub same : heard_in request ≡ kept.request
  pub frame : IsResponse (record { header = request.header; code = code; body = body }) kept.reply

-- the numbers of a header's logical units are below 4
pub record HasUnits (header : Header) : Type 0 where
  pub responder : header.responder.lun < 4
  pub requester : header.requester.lun < 4

-- the windows keep the frame of a response for each request that was carried out
abbrev pub AllAnswered : List Entry → Type 0
AllAnswered [] = Unit {0}
AllAnswered (Carried kept ∷ log) = IsKeptResponse kept × AllAnswered log
AllAnswered (Idled requester ∷ log) = AllAnswered log

-- the windows keep frames, each for the request that it answers
pub record KeepsFrames (windows : HeldWindows) : Type 0 where
  pub log : List Entry
  pub keeps : WindowsKeep sequence_numbers whole windows log
  pub answered : AllAnswered log

-- the windows keep what this log leaves, and frames of responses alone
pub record WindowsHold (windows : HeldWindows) (log : List Entry) : Type 0 where
  pub keeps : WindowsKeep sequence_numbers reading windows log
  pub frames : KeepsFrames windows

-- the port has the model port's address, and keeps what the model port's log leaves
pub record Represents (port : IpmbPort) (at : PortState) : Type 0 where
  pub wire : port.wire ≡ at.wire
  pub log : WindowsHold port.windows at.log

-- ---- responses

-- the response of this header, code and data, and its frame
abbrev pub response : Header → ℕ → List ℕ → Response
response header code body = record { header = header; code = code; body = body }

abbrev pub response_frame : Header → ℕ → List ℕ → List ℕ
response_frame header code body = written (Tells (response header code body))

-- the response to the request that gives the answer
abbrev pub response_giving : Request → Answered → Response
response_giving request answered = response request.header answered.code answered.body

-- a reader of the frame's bytes gives the response
abbrev pub ResponseIsRead : Header → ℕ → List ℕ → Type 0
ResponseIsRead header code body = IsResponse (response header code body) (response_frame header code body)

-- ---- what comes of what is heard

-- the model port and the board after it, and what is sent
abbrev pub step_result_of : BoardFile → PortState → State → Result Request Reason → StepResult
step_result_of setup port before (Ok request) = hears_request setup port before request
step_result_of setup port before (Err why) = stays port before

-- what the rule does with a request at the model port
abbrev pub outcome_at : PortState → Request → Outcome
outcome_at port request = outcome (is_above sequence_numbers) (heard_in request) port.log

-- what was done
abbrev pub done_of : PortState → Result Request Reason → Disposition
done_of port (Ok request) = done_by (outcome_at port request)
done_of port (Err why) = done.Ignored why

-- The port and the board are those of the result, and the port sends its frames. A reader of each frame's bytes gives the frame's value.
pub record IsStepResult (deed : StepResult) (what : Disposition) (next : IpmbPort) (after : State) (out : Out) : Type 0 where
  pub shows : Represents next deed.port
  pub left : after ≡ deed.board
  pub sent : out ≡ sends (map written deed.sent) what
  pub read : ReadBack Ipmb deed.sent

-- A port of a board with this setup hears the bytes. For each model port that it represents, the port and the board become those of
-- the model port's step.
abbrev pub PortStep : BoardFile → IpmbPort → State → List ℕ → Out → IpmbPort → State → Type 0
PortStep setup port before bytes out next after = (at : PortState) → Represents port at → (heard : Result Request Reason) → IsHeard at.wire bytes heard
    → IsStepResult (step_result_of setup at before heard) (done_of at heard) next after out

-- so it is with this board before and that board after
abbrev pub PortStepOf : {S : Type 0} {g h : _} → Board S g h → IpmbPort → List ℕ → Out → IpmbPort → Board S g h → Type 0
PortStepOf board port bytes out next left = PortStep board.setup port (state_of board) bytes out next (state_of left)

-- the port sends the frame of this value alone, and a reader of the frame's bytes gives the value
abbrev pub IsSent : Value → Disposition → Out → Type 0
IsSent value what out = (out ≡ sends (written value ∷ []) what) × ReadBack Ipmb (value ∷ [])

-- the port sends the kept response once more, to any request of this header that the kept frame answers
abbrev pub RepeatsTo : Header → List ℕ → Disposition → Out → Type 0
RepeatsTo header frame what out = (request : Request) → request.header ≡ header → IsKeptResponse (record { request = heard_in request; reply = frame })
    → IsSent (response_after request (Some (reading.reply frame))) what out

-- ---- before the board is asked

-- the request is new at each log that leaves the frames of the windows
abbrev pub IsNewRequest : HeldWindows → Request → Type 0
IsNewRequest windows request = (log : List Entry) → WindowsKeep sequence_numbers whole windows log → outcome (is_above sequence_numbers) (heard_in request) log ≡ IsNew

-- the port has answered a request that isn't new by its response, and hasn't answered a new one
abbrev pub IsSettled : Request → Outcome → Out → Bool → Type 0
IsSettled request (Repeats reply) out settled = (settled ≡ true) × IsSent (response_after request (Some reply)) done.Repeated out
IsSettled request IsBusy out settled = (settled ≡ true) × IsSent (response_after request None) done.Busy out
IsSettled request IsNew out settled = settled ≡ false

-- the port has settled the request so, whatever log the windows keep
abbrev pub SettlesRequest : HeldWindows → Request → Out → Bool → Type 0
SettlesRequest windows request out settled = (port : PortState) → WindowsHold windows port.log → IsSettled request (outcome_at port request) out settled

-- the request is new, whatever log the windows keep
abbrev pub IsNewTo : HeldWindows → Request → Type 0
IsNewTo windows request = (port : PortState) → WindowsHold windows port.log → outcome_at port request ≡ IsNew

-- what the caller does next: it has a new request carried out
abbrev pub next_of : Bool → Request → Step Request
next_of false request = step.Ask request
next_of true request = step.Done

-- the port settles what the model port hears, or the caller has it carried out
abbrev pub AskingStep : PortState → Result Request Reason → Step Request → Out → Type 0
AskingStep port (Ok request) next out = (settled : Bool) × IsSettled request (outcome_at port request) out settled × (next ≡ next_of settled request)
AskingStep port (Err why) next out = (next ≡ step.Done) × (out ≡ sends [] (done.Ignored why))

-- the caller's next step by a request that is new, if there is one
abbrev pub step_of : Option Request → Step Request
step_of (Some request) = step.Ask request
step_of None = step.Done

-- A port at this address with these windows hears the bytes. Whatever log the windows keep, the port settles what it hears, or the caller has it
-- carried out.
abbrev pub IsHeardAt : ℕ → HeldWindows → List ℕ → Option Request → Out → Type 0
IsHeardAt wire windows bytes given out = (port : PortState) → WindowsHold windows port.log → (heard : Result Request Reason) → IsHeard wire bytes heard
    → AskingStep port heard (step_of given) out

-- A port hears the bytes up to where the caller asks the board, and stays as it was. For each model port that it represents, it settles what the
-- model port hears, or the caller has it carried out.
pub record IsStep (port : IpmbPort) (bytes : List ℕ) (next : IpmbPort) (out : Out) (given : Step Request) : Type 0 where
  pub steps : (at : PortState) → Represents port at → (heard : Result Request Reason) → IsHeard at.wire bytes heard → AskingStep at heard given out
  pub stays : next ≡ port

-- ---- once the board answered

-- the request, with the reply that gives the answer
abbrev pub kept_of : Request → Answered → Kept
kept_of request answered = record { request = heard_in request; reply = spelled Ipmb (heard_in request) answered }

-- the model port once it got this answer to the request: by the rule it keeps a new request alone
abbrev pub after : PortState → Request → Answered → PortState
after port request answered = record port { log = log_after (outcome_at port request) (kept_of request answered) port.log }

-- the response that the port then sends, and all that it sends
abbrev pub response_at : PortState → Request → Answered → Value
response_at port request answered = response_after request (reply_after (outcome_at port request) (kept_of request answered))

abbrev pub out_after : PortState → Request → Answered → Out
out_after port request answered = sends (written (response_at port request answered) ∷ []) (done_by (outcome_at port request))

-- the port, the response and all that it sends, where the request is new
abbrev pub carries : PortState → Request → Answered → PortState
carries port request answered = record port { log = Carried (kept_of request answered) ∷ port.log }

abbrev pub first_response : Request → Answered → Value
first_response request answered = response_after request (Some (kept_of request answered).reply)

abbrev pub first_answer : Request → Answered → Out
first_answer request answered = sends (written (first_response request answered) ∷ []) done.Answered

-- the windows keep a new request with this answer to it
abbrev pub KeepsAnswer : HeldWindows → Request → Answered → HeldWindows → Type 0
KeepsAnswer old request answered new = (port : PortState) → WindowsHold old port.log → outcome_at port request ≡ IsNew → IsNewRequest old request → WindowsHold new (carries port request answered).log

-- A port answers the request with this answer. For each model port that it represents, it then represents the port that the rule leaves. It sends the
-- rule's response, and a reader of the response's bytes gives that response.
pub record AnswerStep (port : IpmbPort) (request : Request) (answered : Answered) (next : IpmbPort) (out : Out) : Type 0 where
  pub shows : (at : PortState) → Represents port at → Represents next (after at request answered)
  pub sent : (at : PortState) → Represents port at → out ≡ out_after at request answered
  pub read : (at : PortState) → Represents port at → ReadBack Ipmb (response_at at request answered ∷ [])
