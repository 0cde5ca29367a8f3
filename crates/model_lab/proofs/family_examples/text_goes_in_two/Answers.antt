use Rattle.std.proofs.Common.{refl}
use Rattle.model_lab.proofs.family_examples.text_goes_in_two.Goals as goal

pub returns : goal.returns
returns c = record { in_parts = refl; first = refl; second = refl; no_third = refl; shown = refl; goes_on = refl; ends = refl; together = refl; one_part_is_none = refl }
