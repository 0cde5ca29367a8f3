-- A port on IPMB with a carrier beside it.
use Rattle.std.specs.Prelude.{◌≡◌, ◌≤◌, ℕ, List, [], ◌∷◌, length, Result, IfOk}
use Rattle.two_wire.specs.declared.Bus.TheVariants.{Ipmb}
use Rattle.two_wire.specs.Sizes.{most_ipmi_reply_data}
use Rattle.ipmb_frame.specs.declared.message.Header.{Header}
use Rattle.ipmb_frame.specs.declared.message.Request.{Request}
use Rattle.ipmb_frame.specs.Grammar.{IsHeader, IsResponse, response_start}
use Rattle.record_base.specs.declared.message.Asked.{Asked}
use Rattle.record_base.specs.declared.message.Answered.{Answered}
use Rattle.bmc_board.specs.Gives.{GivesReply}
use Rattle.bmc_board.specs.declared.carrier.Carrier.{Ghosts}
use Rattle.bmc_core.specs.Keeps.{HeldWindows}
use Rattle.bmc_core.specs.PortSteps.{asked_in}
use Rattle.bmc_core.specs.declared.out.Out.{Out}
use Rattle.bmc_core.specs.declared.step.ServeOutcome.{ServeOutcome}
use Rattle.bmc_core.specs.declared.ipmb_port.IpmbPort.{IpmbPort}
use Rattle.bmc_core.specs.Outs.{ReadBack}
use Rattle.bmc_core.specs.IpmbShown.{IsStep, AnswerStep, KeepsAnswer, response, response_giving, first_response, first_answer}
use Rattle.bmc_core.specs.Served.{ServesBy}

-- the data of some answer that isn't refused stand behind the start of its response
pub record BeginsResponse (head : Header) (given : Result (Unit {0}) ℕ) (frame : List ℕ) : Type 0 where
  pub header : IsHeader head
  pub answered : Answered
  pub gives : GivesReply given (response_start head 0) frame answered
  pub fits : length answered.body ≤ most_ipmi_reply_data

-- the frame is the response with the answer that was given behind the response's start
abbrev pub IsEnded : Header → Result (Unit {0}) ℕ → (begun frame : List ℕ) → Type 0
IsEnded head given begun frame = (answered : Answered) → GivesReply given (response_start head 0) begun answered
    → length answered.body ≤ most_ipmi_reply_data → IsResponse (response head answered.code answered.body) frame

-- the frame is the response to the request, with the answer with which it was carried out
pub record IsAnsweredBy {K : Type 0} (carries : Asked → Answered → K → Type 0) (request : Request) (frame : List ℕ) (after : K) : Type 0 where
  pub answered : Answered
  pub carried : carries (asked_in request) answered after
  pub response : IsResponse (response_giving request answered) frame

-- if the carrier carried the request out, the frame is the response with its answer
abbrev pub AnswersBy : {C K Error : Type 0} → Ghosts C K Error → C → K → Request → Result (Unit {0}) Error → List ℕ → K → Type 0
AnswersBy of carrier before request result frame after = IfOk result (λ done. IsAnsweredBy (of.carries carrier before) request frame after)

-- A new request was carried out and kept, and the port sends its response. A reader of the response's bytes gives that response.
pub record IsCarriedOut {K : Type 0} (carries : Asked → Answered → K → Type 0) (old : HeldWindows) (request : Request) (after : K) (new : HeldWindows) (out : Out) : Type 0 where
  pub answered : Answered
  pub carried : carries (asked_in request) answered after
  pub kept : KeepsAnswer old request answered new
  pub sent : out ≡ first_answer request answered
  pub read : ReadBack Ipmb (first_response request answered ∷ [])

-- if the carrier carried the request out, the port kept it and sends its response
abbrev pub CarriesOut : {C K Error : Type 0} → Ghosts C K Error → C → K → HeldWindows → Request → Result (Unit {0}) Error → K → HeldWindows → Out → Type 0
CarriesOut of carrier before old request result after new out =
    IfOk result (λ done. IsCarriedOut (of.carries carrier before) old request after new out)

-- the port took the bytes
abbrev pub ServesFrameBy : {K Error : Type 0} → (Asked → Answered → K → Type 0) → (Error → K → Type 0) → IpmbPort → List ℕ → K → Result ServeOutcome Error → IpmbPort → Out → K → Type 0
ServesFrameBy carries refuses port bytes before result next out after =
    ServesBy (λ between heard step. IsStep port bytes between heard step) AnswerStep asked_in carries refuses before result next out after

-- and this carrier was beside it
abbrev pub ServesFrame : {C K Error : Type 0} → Ghosts C K Error → C → IpmbPort → List ℕ → K → Result ServeOutcome Error → IpmbPort → Out → K → Type 0
ServesFrame of carrier port bytes before result next out after =
    ServesFrameBy (of.carries carrier before) (of.refuses carrier before) port bytes before result next out after
