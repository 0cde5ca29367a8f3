-- A turn, by what is done with the request.
use Rattle.std.proofs.Common.{◌≡◌, ℕ, Bool, List, refl, ◌∙◌, ap}
use Rattle.record_base.specs.declared.message.Asked.{Asked}
use Rattle.record_base.specs.declared.message.Answered.{Answered}
use Rattle.cfg_records.specs.declared.board_file.BoardFile.{BoardFile}
use Rattle.model_bus.specs.Request.{Request as Heard, Kept, Entry}
use Rattle.model_bus.specs.Carried.{Outcome, outcome, log_after, reply_after}
use Rattle.bmc_board.specs.State.{State}
use Rattle.bmc_board.specs.Answer.{answer_of}
use Rattle.bmc_core.specs.PortSteps.{Turn, turn, left_by}
use Rattle.bmc_core.specs.Turns.{TurnsBy}

module _ (above : ℕ → ℕ → Bool) (r : Heard) (spell : Answered → List ℕ) (setup : BoardFile) (asked : Asked) (log : List Entry) (before : State) where
  -- a turn, where this is done with the request
  abbrev turn_by : Outcome → Turn
  turn_by o =
      let given = answer_of setup before asked in
      let k : Kept = record { request = r; reply = spell given.0 } in
      record { outcome = o; log = log_after o k log; left = left_by o given.1 before; replied = reply_after o k }

  turn_is : turn above r spell setup asked log before ≡ turn_by (outcome above r log)
  unfolding turn
  turn_is = refl

  pub turns_by : TurnsBy above r spell setup asked log before
  turns_by = record {
    repeats = λ reply e. turn_is ∙ ap turn_by e;
    busy = λ e. turn_is ∙ ap turn_by e;
    new = λ e. turn_is ∙ ap turn_by e;
  }
