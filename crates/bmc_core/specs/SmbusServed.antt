-- A port on the System Management Bus with a carrier beside it.
use Rattle.std.specs.Prelude.{◌≡◌, ℕ, List, ◌∷◌, ◌++◌, Result, IfOk}
use Rattle.pldm_base.specs.declared.message.Header.{Header}
use Rattle.pldm_base.specs.Message.{reply_start}
use Rattle.record_base.specs.declared.message.Asked.{Asked}
use Rattle.record_base.specs.declared.message.Answered.{Answered}
use Rattle.model_bus.specs.Bytes.{pldm_message_type}
use Rattle.bmc_board.specs.Gives.{GivesReply}
use Rattle.bmc_board.specs.declared.carrier.Carrier.{Ghosts}
use Rattle.bmc_core.specs.declared.out.Out.{Out}
use Rattle.bmc_core.specs.declared.step.ServeOutcome.{ServeOutcome}
use Rattle.bmc_core.specs.declared.smbus_port.SmbusPort.{SmbusPort}
use Rattle.bmc_core.specs.SmbusHeard.{InMessage, asked_of, kept_with}
use Rattle.bmc_core.specs.SmbusShown.{AskingStep, AnswerStep, request_in}
use Rattle.bmc_core.specs.Served.{ServesBy}

-- the start of a reply: all that stands before its data
abbrev pub reply_before_data : Header → ℕ → List ℕ
reply_before_data head code = pldm_message_type ∷ reply_start head code

-- the bytes are the reply with the answer that was given behind the reply's start
abbrev pub IsEnded : Header → Result (Unit {0}) ℕ → (begun reply : List ℕ) → Type 0
IsEnded head given begun reply = (answered : Answered) → GivesReply given (reply_before_data head 0) begun answered
    → reply ≡ reply_before_data head answered.code ++ answered.body

-- the bytes are the reply to the request, with the answer with which it was carried out
pub record IsAnsweredBy {K : Type 0} (carries : Asked → Answered → K → Type 0) (asking : InMessage) (reply : List ℕ) (after : K) : Type 0 where
  pub answered : Answered
  pub carried : carries (asked_of asking) answered after
  pub reply_is : reply ≡ (kept_with asking answered).reply

-- if the carrier carried the request out, the bytes are the reply with its answer
abbrev pub AnswersBy : {C K Error : Type 0} → Ghosts C K Error → C → K → InMessage → Result (Unit {0}) Error → List ℕ → K → Type 0
AnswersBy of carrier before asking result reply after = IfOk result (λ done. IsAnsweredBy (of.carries carrier before) asking reply after)

-- the port took the bytes
abbrev pub ServesFrameBy : {K Error : Type 0} → (Asked → Answered → K → Type 0) → (Error → K → Type 0) → SmbusPort → List ℕ → K → Result ServeOutcome Error → SmbusPort → Out → K → Type 0
ServesFrameBy carries refuses port bytes before result next out after =
    ServesBy (λ between heard step. AskingStep port bytes between heard step) AnswerStep (λ pending. asked_of (request_in pending)) carries refuses
    before result next out after

-- and this carrier was beside it
abbrev pub ServesFrame : {C K Error : Type 0} → Ghosts C K Error → C → SmbusPort → List ℕ → K → Result ServeOutcome Error → SmbusPort → Out → K → Type 0
ServesFrame of carrier port bytes before result next out after =
    ServesFrameBy (of.carries carrier before) (of.refuses carrier before) port bytes before result next out after
