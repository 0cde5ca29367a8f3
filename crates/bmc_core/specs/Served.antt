-- A port of either bus that takes bytes with a carrier beside it.
use Rattle.std.specs.Prelude.{◌≡◌, Result, Ok, Err}
use Rattle.record_base.specs.declared.message.Asked.{Asked}
use Rattle.record_base.specs.declared.message.Answered.{Answered}
use Rattle.bmc_core.specs.declared.out.Out.{Out}
use Rattle.bmc_core.specs.declared.step.ServeOutcome.{ServeOutcome}
use Rattle.bmc_core.specs.declared.step.ServeOutcome.TheVariants.{CarriedOut, NothingAsked}
use Rattle.bmc_core.specs.declared.step.Step.{Step}
use Rattle.bmc_core.specs.declared.step.Step.TheVariants.{Ask, Done}

-- The port heard bytes with a new request. The carrier carried the request out with this answer, and the port got the answer.
pub record HasCarried {Port Pending K : Type 0} (hears : Port → Out → Step Pending → Type 0) (answers : Port → Pending → Answered → Port → Out → Type 0) (asked_of : Pending → Asked)
    (carries : Asked → Answered → K → Type 0) (next : Port) (out : Out) (after : K) : Type 0 where
  pub between : Port
  pub heard : Out
  pub pending : Pending
  pub answered : Answered
  pub asks : hears between heard (Ask pending)
  pub carried : carries (asked_of pending) answered after
  pub replied : answers between pending answered next out

-- By what the port gives: the carrier carried the request out; or the bytes asked nothing, and the carrier's state is as it was; or the carrier
-- refused the request, which the port has heard, and the port got no answer.
abbrev pub ServesBy : {Port Pending K Error : Type 0} → (Port → Out → Step Pending → Type 0) → (Port → Pending → Answered → Port → Out → Type 0) → (Pending → Asked) → (Asked → Answered → K → Type 0)
    → (Error → K → Type 0) → K → Result ServeOutcome Error → Port → Out → K → Type 0
ServesBy hears answers asked_of carries refuses before (Ok CarriedOut) next out after = HasCarried hears answers asked_of carries next out after
ServesBy hears answers asked_of carries refuses before (Ok NothingAsked) next out after = hears next out Done × (after ≡ before)
ServesBy {Pending = Pending} hears answers asked_of carries refuses before (Err why) next out after = ((pending : Pending) × hears next out (Ask pending)) × refuses why after
