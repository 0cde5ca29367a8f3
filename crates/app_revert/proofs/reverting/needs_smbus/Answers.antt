use Rattle.std.specs.Prelude.{◌||◌}
use Rattle.std.proofs.Common.{◌∙◌}
use Rattle.model_lab.specs.Meaning.{lab_names}
use Rattle.app_revert.proofs.reverting.needs_smbus.Goals as goal

pub returns : goal.returns
returns c = (
  c.undo_list.result.now,
  c.open_bus.result,
  (λ s shows. c.undo_list.ensures lab_names s shows),
  (λ s shows. c.open_bus.ensures lab_names s shows),
  c.either.ensures ∙ (λ i. c.is_on_smbus-open.ensures i || c.requests_use-listed.ensures i),
)
