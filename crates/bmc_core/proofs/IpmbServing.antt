-- A port on IPMB that has a request carried out hears it, and then gets the answer.
use Rattle.std.proofs.Common.{◌≡◌, ℕ, false, List, Option, Some, Result, Ok, Err, refl, sym, ap, subst}
use Rattle.ipmb_frame.specs.declared.message.Request.{Request}
use Rattle.record_base.specs.declared.message.Asked.{Asked}
use Rattle.record_base.specs.declared.message.Answered.{Answered}
use Rattle.model_bus.specs.Carried.{Outcome, IsNew}
use Rattle.bmc_board.specs.declared.board.Board.{Board}
use Rattle.bmc_board.specs.State.{State, state_of}
use Rattle.bmc_board.specs.Answer.{AnswerAndState}
use Rattle.bmc_board.specs.Serves.{given_by}
use Rattle.bmc_board.specs.Carrying.{IsOneAnswer}
use Rattle.bmc_core.specs.Keeps.{HeldWindows}
use Rattle.bmc_core.specs.PortSteps.{PortState, asked_in}
use Rattle.bmc_core.specs.declared.out.Out.{Out}
use Rattle.bmc_core.specs.declared.out.Reason.{Reason}
use Rattle.bmc_core.specs.declared.step.ServeOutcome.{ServeOutcome}
use Rattle.bmc_core.specs.declared.step.ServeOutcome.TheVariants.{CarriedOut, NothingAsked}
use Rattle.bmc_core.specs.declared.step.Step.TheVariants as step
use Rattle.bmc_core.specs.declared.ipmb_port.IpmbPort.{IpmbPort}
use Rattle.bmc_core.specs.IpmbHeard.{IsHeard}
use Rattle.bmc_core.specs.IpmbShown.{WindowsHold, Represents, PortStep, IsNewRequest, IsHeardAt, IsStep, AnswerStep, IsSettled, AskingStep, step_of, outcome_at}
use Rattle.bmc_core.specs.Served.{HasCarried}
use Rattle.bmc_core.specs.IpmbServed.{IsCarriedOut, ServesFrameBy}
use Rattle.bmc_core.proofs.IpmbDeeds.{answered_new, step_new}
use Rattle.bmc_core.proofs.PortSteps.{ipmb_settled, ipmb_asked}

-- what is to be carried out is that, whatever is sent
asked_step : (p : PortState) (heard : Result Request Reason) (r : Request) (first out : Out) → AskingStep p heard (step.Ask r) first → AskingStep p heard (step.Ask r) out
asked_step p heard r first out is =
    let so = step_new p heard r first is in
    subst (λ (h : Result Request Reason). AskingStep p h (step.Ask r) out) (sym so.0) (false, subst (λ (o : Outcome). IsSettled r o out false) (sym so.1) refl, refl)

module _ (port : IpmbPort) (bytes : List ℕ) where
  -- the port hears what is heard at its address
  pub heard_so : (given : Option Request) (out : Out) → IsHeardAt port.wire port.windows bytes given out → IsStep port bytes port out (step_of given)
  heard_so given out at = record {
    steps = λ p shows heard is. at p shows.log heard (subst (λ (w : ℕ). IsHeard w bytes heard) (sym shows.wire) is);
    stays = refl;
  }

  -- a new request that wasn't carried out was heard
  pub refused_so : (r : Request) (first out : Out) (new : HeldWindows) → IsHeardAt port.wire port.windows bytes (Some r) first → new ≡ port.windows
      → IsStep port bytes (record { wire = port.wire; windows = new }) out (step.Ask r)
  refused_so r first out new at same = record {
    steps = λ p shows heard is. asked_step p heard r first out ((heard_so (Some r) first at).steps p shows heard is);
    stays = λ i. record { wire = port.wire; windows = same i };
  }

  -- a new request that was carried out was heard, and then answered
  pub carried_so : {K : Type 0} (carries : Asked → Answered → K → Type 0) (r : Request) (first out : Out) (new : HeldWindows) (after : K)
      → IsHeardAt port.wire port.windows bytes (Some r) first
      → IsNewRequest port.windows r
      → ((p : PortState) → WindowsHold port.windows p.log → outcome_at p r ≡ IsNew)
      → IsCarriedOut carries port.windows r after new out
      → HasCarried (λ between heard step. IsStep port bytes between heard step) AnswerStep asked_in carries (record { wire = port.wire; windows = new }) out after
  carried_so carries r first out new after at fresh is_new done =
      let next : IpmbPort = record { wire = port.wire; windows = new } in
      let answers = λ (p : PortState) (shows : Represents port p).
      answered_new p r done.answered next out (is_new p shows.log) (record { wire = shows.wire; log = done.kept p shows.log (is_new p shows.log) fresh }) done.sent done.read in
      record {
        between = port;
        heard = first;
        pending = r;
        answered = done.answered;
        asks = heard_so (Some r) first at;
        carried = done.carried;
        replied = record { shows = λ p shows. (answers p shows).0; sent = λ p shows. (answers p shows).1; read = λ p shows. (answers p shows).2 };
      }

-- a port that has a board alone carry requests out hears as one of that board
pub alone_hears : {S E : Type 0} {g h : _} (port next : IpmbPort) (bytes : List ℕ) (before after : Board S g h) (out : Out) (result : Result ServeOutcome E)
    → ServesFrameBy (λ asked answered now. IsOneAnswer before asked answered now) (λ (why : E) (now : Board S g h). ⊥) port bytes before result next out after
    → PortStep before.setup port (state_of before) bytes out next (state_of after) × (after.setup ≡ before.setup)
alone_hears port next bytes before after out (Ok CarriedOut) done =
    let given : AnswerAndState = given_by before (asked_in done.pending) in
    let reply : done.answered ≡ given.0 = ap (λ (g : AnswerAndState). g.0) done.carried.answer in
    let left : state_of after ≡ given.1 = ap (λ (g : AnswerAndState). g.1) done.carried.answer in
    let answers : AnswerStep done.between done.pending given.0 next out = subst (λ (a : Answered). AnswerStep done.between done.pending a next out) reply done.replied in (
      subst (λ (now : State). PortStep before.setup port (state_of before) bytes out next now) (sym left)
          (ipmb_asked before.setup (state_of before) port done.between next bytes done.heard out done.pending done.asks answers),
      done.carried.setup,
    )
alone_hears {S} {E} {g} {h} port next bytes before after out (Ok NothingAsked) done = (
  subst (λ (now : Board S g h). PortStep before.setup port (state_of before) bytes out next (state_of now)) (sym done.1)
      (ipmb_settled before.setup (state_of before) port next bytes out done.0),
  ap (λ (now : Board S g h). now.setup) done.1,
)
alone_hears port next bytes before after out (Err why) done = absurd done.1
