-- A port between two of its logs: it carried calls out, in order, and the board answered them so.
use Rattle.std.proofs.Common.{◌≡◌, ℕ, Bool, true, false, cond, List, [], ◌∷◌, ◌++◌, refl, sym, subst}
use Rattle.record_base.specs.declared.message.Asked.{Asked}
use Rattle.record_base.specs.declared.message.Answered.{Answered}
use Rattle.cfg_records.specs.declared.board_file.BoardFile.{BoardFile}
use Rattle.bmc_board.specs.State.{State}
use Rattle.bmc_board.specs.Answer.{AnswerAndState, answer_of}
use Rattle.model_bus.specs.Request.{Request as Heard, Kept, Entry}
use Rattle.model_bus.specs.Carried.{Outcome, Repeats, IsBusy, IsNew, outcome}
use Rattle.bmc_core.specs.PortSteps.{Turn, turn, PortState, StepResult}
use Rattle.bmc_core.specs.Turns.{TurnsBy}
use Rattle.bmc_core.proofs.Turning.{turns_by}
use Rattle.bmc_shared.specs.declared.event.Call.{Call}
use Rattle.bmc_shared.specs.declared.event.Call.TheVariants.{Exchanged}
use Rattle.bmc_shared.specs.declared.event.Event.{Event as BoardEvent}
use Rattle.bmc_shared.specs.Replay.{IsReplay}
use Rattle.model_headline.specs.Histories.{IsExchange, CarriesOut}
use Rattle.model_headline.proofs.Lists.{carries_none, carries_both, replays_both, at_seat, seats_both}

module _ (setup : BoardFile) where
  pub record Did (log : List Entry) (before : State) (later : List Entry) (left : State) : Type 0 where
    pub calls : List Call
    pub carried : CarriesOut calls log later
    pub replays : (seat : ℕ) → IsReplay setup before (at_seat seat calls) left

  pub did_nothing : (log : List Entry) (before : State) → Did log before log before
  did_nothing log before = record { calls = []; carried = carries_none log; replays = λ seat. refl }

  pub did_both : (a b c : List Entry) (first mid last : State) → Did a first b mid → Did b mid c last → Did a first c last
  did_both a b c first mid last one two = record {
    calls = one.calls ++ two.calls;
    carried = carries_both one.calls two.calls a b c one.carried two.carried;
    replays = λ seat. subst (λ (events : List BoardEvent). IsReplay setup first events last) (sym (seats_both seat one.calls two.calls))
        (replays_both setup first mid last (at_seat seat one.calls) (at_seat seat two.calls) (one.replays seat) (two.replays seat));
  }

  -- what a port did with what came
  abbrev pub DidAt : PortState → State → StepResult → Type 0
  DidAt port before d = Did port.log before d.port.log d.board

  pub did_if : (t : Bool) (port : PortState) (before : State) (d e : StepResult) → DidAt port before d → DidAt port before e → DidAt port before (cond t d e)
  did_if true port before d e here there = here
  did_if false port before d e here there = there

  -- one request, which asks this of the board in its bytes, and whose reply spells the answer
  module _ (above : ℕ → ℕ → Bool) (r : Heard) (spell : Answered → List ℕ) (asked : Asked)
      (is : (a : Answered) → (let k : Kept = record { request = r; reply = spell a } in IsExchange k asked a)) (log : List Entry) (before : State) where
    abbrev DidTurn : Turn → Type 0
    DidTurn t = Did log before t.log t.left

    abbrev by : TurnsBy above r spell setup asked log before
    by = turns_by above r spell setup asked log before

    carried_out : outcome above r log ≡ IsNew → DidTurn (turn above r spell setup asked log before)
    carried_out e =
        let given : AnswerAndState = answer_of setup before asked in
        let k : Kept = record { request = r; reply = spell given.0 } in
        subst DidTurn (sym (by.new e)) (record {
          calls = Exchanged asked given.0 ∷ [];
          carried = (k ∷ [], refl, (is given.0, tt));
          replays = λ seat. (refl, refl);
        })

    by_outcome : (o : Outcome) → outcome above r log ≡ o → DidTurn (turn above r spell setup asked log before)
    by_outcome (Repeats reply) e = subst DidTurn (sym (by.repeats reply e)) (did_nothing log before)
    by_outcome IsBusy e = subst DidTurn (sym (by.busy e)) (did_nothing log before)
    by_outcome IsNew e = carried_out e

    pub did_turn : DidTurn (turn above r spell setup asked log before)
    did_turn = by_outcome (outcome above r log) refl
