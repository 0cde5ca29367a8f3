-- What a turn is, by what the rule does with the request: the facts that proofs need of a definition that doesn't unfold by itself.
use Rattle.std.specs.Prelude.{◌≡◌, ℕ, Bool, List, ◌∷◌, Some, None}
use Rattle.record_base.specs.declared.message.Asked.{Asked}
use Rattle.record_base.specs.declared.message.Answered.{Answered}
use Rattle.cfg_records.specs.declared.board_file.BoardFile.{BoardFile}
use Rattle.model_bus.specs.Request.{Request as Heard, Entry, Carried}
use Rattle.model_bus.specs.Carried.{Repeats, IsBusy, IsNew, outcome}
use Rattle.bmc_board.specs.State.{State}
use Rattle.bmc_board.specs.Answer.{answer_of}
use Rattle.bmc_core.specs.PortSteps.{turn}

-- A request that repeats an earlier one gets the earlier one's reply. A request that finds the port busy gets none. The board answers a new request,
-- which enters the log.
pub record TurnsBy (above : ℕ → ℕ → Bool) (heard : Heard) (spell : Answered → List ℕ) (setup : BoardFile) (asked : Asked) (log : List Entry) (before : State) : Type 0 where
  pub repeats : (reply : List ℕ) → outcome above heard log ≡ Repeats reply
      → turn above heard spell setup asked log before ≡ record { outcome = Repeats reply; log = log; left = before; replied = Some reply }
  pub busy : outcome above heard log ≡ IsBusy → turn above heard spell setup asked log before ≡ record { outcome = IsBusy; log = log; left = before; replied = None }
  pub new : outcome above heard log ≡ IsNew
      → let given = answer_of setup before asked in
      turn above heard spell setup asked log before
      ≡ record { outcome = IsNew; log = Carried (record { request = heard; reply = spell given.0 }) ∷ log; left = given.1; replied = Some (spell given.0) }
