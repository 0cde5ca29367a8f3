use Rattle.std.proofs.Common.{◌∙◌, ap}
use Rattle.undo_plans.specs.KeptManager.{Kept}
use Rattle.app_journal.specs.Standing.{is_over_at}
use Rattle.app_journal.proofs.standing.has_ended.Goals as goal

pub returns : goal.returns
returns c = c.is_over_at.ensures ∙ ap (λ (k : Kept). is_over_at k.stage) c.journal.ensures.kept
