use Rattle.std.proofs.Common.{rules, ◌<◌, length, arith}
use Rattle.std.proofs.lemmas.Option.{slice_get-get_or}
use Rattle.app_change.proofs.OneMore.{kept_next, op_at}
use Rattle.app_change.proofs.keeping.kept_steps.Goals as goal

pub loop-place-preserved : goal.loop-place-preserved
loop-place-preserved c =
    let within : c.loop-place.place < length c.args.found.now = omega arith in
    let at_found = slice_get-get_or c.args.found.now c.loop-place.place c.index-found-place.result within in
    let here = op_at c.args.steps.now c.loop-place.place (search rules) in
    kept_next c.args.steps.now c.args.found.now c.loop-place.place here.0 _ c.loop-place.kept c.keep_step.new.kept here.1 at_found c.loop-place.invariant.0
    c.loop-place.invariant.1 (c.in_ok-keep_step.ensures here.0 here.1)
