-- The machinery is of the statement, and no schedule of it is left out. This is no part of the statement.
use Rattle.std.specs.Prelude.{◌≡◌, ◌↔◌, ℕ, List, map}
use Rattle.record_base.specs.declared.op.Op.{Op}
use Rattle.record_base.specs.declared.message.Asked.{Asked}
use Rattle.record_base.specs.declared.message.Answered.{Answered}
use Rattle.cfg_records.specs.declared.board_file.BoardFile.{BoardFile}
use Rattle.bmc_board.specs.Request.{asked_by}
use Rattle.bmc_board.specs.State.{State}
use Rattle.bmc_board.specs.Row.{Row}
use Rattle.undo_plans.specs.declared.names.Names.{Names}
use Rattle.model_lab.specs.Lab as lab
use Rattle.model_headline.specs.Theorem as law
use Rattle.model_headline.specs.Lab.{Event}
use Rattle.model_headline.specs.Claim.{IsAnsweredRequest, ours, AllHonest, first, after, Claim}
use Rattle.model_headline.specs.Seen.{seen_event, SeenManager, seen_lab}

-- Each schedule of the machinery's lab is one of the statement's. It is honest there, and joins no stale packets, exactly where it is honest
-- here; and then both labs are alike after it, and at the start. The machinery's headline follows from the claim. The board's command relation is
-- within that of the statement.
pub record Refines (setup : BoardFile) (names : Names) (plan : List Op) (retries : ℕ) : Type 0 where
  pub every : (events : List lab.Event) → (same : List Event) × (events ≡ map seen_event same)
  pub honest : (events : List Event) → AllHonest (ours setup) names events (first setup (ours setup) names plan retries) ↔ law.IsTrusted setup names plan retries (map seen_event events)
  pub alike : (events : List Event) → AllHonest (ours setup) names events (first setup (ours setup) names plan retries)
      → (made : SeenManager) × (law.after setup names plan retries (map seen_event events) ≡ seen_lab names made (after setup (ours setup) names plan retries events))
  pub rows : (before : State) (asked : Asked) (answered : Answered) (after : State) → Row setup before asked answered after → IsAnsweredRequest setup (asked_by asked) before answered after
  pub strong : Claim setup (ours setup) names plan retries → law.Headline setup names plan retries (law.IsTrusted setup names plan retries)
