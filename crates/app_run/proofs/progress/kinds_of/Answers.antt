use Rattle.std.proofs.Common.{◌≡◌, ℕ, ◌+◌, ◌++◌, ◌∷◌, [], List, map, take, Some, sym, ◌∙◌}
use Rattle.std.specs.List.{slice_get}
use Rattle.std.proofs.lemmas.List.{take_more, map-append}
use Rattle.std.proofs.lemmas.Option.{slice_get_within, get_or_from_slice_get}
use Rattle.record_base.specs.declared.op.Op.{Op}
use Rattle.plan_file.specs.Kinds.{kind_of}
use Rattle.app_run.proofs.progress.kinds_of.Goals as goal

-- the kinds of one step more
one_more : (steps : List Op) (place : ℕ) (op : Op) → slice_get steps place ≡ Some op → map kind_of (take (place + 1) steps) ≡ map kind_of (take place steps) ++ kind_of op ∷ []
one_more steps place op at = rw (take_more steps place op (slice_get_within steps place op at), get_or_from_slice_get steps place op op at, map-append)

pub loop-place-preserved : goal.loop-place-preserved
loop-place-preserved c =
    let at : slice_get c.args.steps.now c.loop-place.place ≡ Some c.unwrap-op.result = sym c.get.ensures ∙ c.unwrap-op.ensures in
    record { seen = rw (one_more c.args.steps.now c.loop-place.place c.unwrap-op.result at, c.in_ok-push.ensures.items, c.of.ensures, c.loop-place.invariant.seen) }
