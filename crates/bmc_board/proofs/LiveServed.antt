-- A live command was served.
use Rattle.std.proofs.Common.{◌≡◌, List, ℕ, Result, sym, subst}
use Rattle.bmc_board.specs.declared.board.Board.{Board}
use Rattle.bmc_board.specs.declared.live.LiveCommand.{LiveCommand}
use Rattle.bmc_board.specs.Gives.{AppendsReply}
use Rattle.bmc_board.specs.Replies.{done}
use Rattle.bmc_board.specs.Request.{live_asked}
use Rattle.bmc_board.specs.State.{state, records_in}
use Rattle.bmc_board.specs.Serves.{ServesRequest, live_by}

-- its answer is given, it leaves what it leaves of what isn't configuration, and the records and the setup stay
pub served : {S A B : Type 0} {g h : _} (bytes : B → List ℕ) (old new : Board S g h) (body : List ℕ) (result : Result A ℕ) (before after : B) {command : LiveCommand} (named : LiveCommand) → command ≡ named
    → AppendsReply bytes result before after (live_by old named body).0 → new.activity ≡ (live_by old named body).1 → records_in new ≡ records_in old → new.setup ≡ old.setup
    → ServesRequest bytes old new (live_asked command body) result before after
served bytes old new body result before after named is answer activity records setup =
    subst (λ (c : LiveCommand). ServesRequest bytes old new (live_asked c body) result before after) (sym is)
    (record { answer = answer; left = λ i. state (records i) (activity i); setup = setup })

-- data that are shown are the reply's
pub shown : {A B : Type 0} (bytes : B → List ℕ) (result : Result A ℕ) (before after : B) {one body : List ℕ} → one ≡ body → AppendsReply bytes result before after (done one) → AppendsReply bytes result before after (done body)
shown bytes result before after same = subst (λ (xs : List ℕ). AppendsReply bytes result before after (done xs)) same
