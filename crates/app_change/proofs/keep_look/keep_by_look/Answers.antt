use Rattle.std.proofs.Common.{◌∙◌, length, ap}
use Rattle.app_change.proofs.Looked.{found_long}
use Rattle.app_change.proofs.keep_look.keep_by_look.Goals as goal

pub kept_steps-requires : goal.kept_steps-requires
kept_steps-requires g c = ap length c.as_slice.ensures.value ∙ found_long c.args.way.now c.args.steps.now c.in-Ok.named.found.items (c.in-Ok.named.names, c.in-Ok.ensures.found)
