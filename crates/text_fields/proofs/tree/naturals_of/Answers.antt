use Rattle.std.proofs.Common.{◌≡◌, ◌<◌, length, take, refl, sym, ◌∙◌, arith, ap, Some, map}
use Rattle.std.proofs.lemmas.List.{length-replicate}
use Rattle.std.proofs.Math.ListN.{length-set}
use Rattle.std.proofs.Math.Seq.{take-length}
use Rattle.toml.specs.View.{view}
use Rattle.text_fields.specs.Trees.{naturals}
use Rattle.text_fields.proofs.Values.{none_at, read_more}
use Rattle.text_fields.proofs.tree.naturals_of.Goals as goal

pub loop-place-init : goal.loop-place-init
loop-place-init g c = (length-replicate g.row.N 0, refl)

pub returns-in_default : goal.returns-in_default
returns-in_default g c =
    let none = sym c.natural.ensures ∙ c.in_default.is in
    sym (none_at c.args.values.now c.loop-place.place c.index-values-place.result c.loop-place-test.true c.index-values-place.is none)

pub loop-place-preserved : goal.loop-place-preserved
loop-place-preserved g c =
    let (long, so_far) = c.loop-place.invariant in
    let inside : c.loop-place.place < length c.loop-place.numbers = omega (arith, long, c.requires) in (
      length-set c.loop-place.numbers c.loop-place.place c.in-Some.number ∙ long,
      read_more c.args.values.now c.loop-place.numbers c.loop-place.place c.index-values-place.result c.in-Some.number c.loop-place-test.true inside c.index-values-place.is (sym c.natural.ensures ∙ c.in-Some.is) so_far,
    )

pub returns : goal.returns
returns g c =
    let (long, so_far) = c.loop-place.invariant in
    let end : c.loop-place.place ≡ length c.args.values.now = omega arith in
    let end_numbers : c.loop-place.place ≡ length c.loop-place.numbers = omega (arith, c.requires) in
    let whole : take c.loop-place.place c.args.values.now ≡ c.args.values.now = rw end (take-length c.args.values.now) in
    let whole_numbers : take c.loop-place.place c.loop-place.numbers ≡ c.loop-place.numbers = rw end_numbers (take-length c.loop-place.numbers) in
    sym (ap (λ vs. naturals (map view vs)) (sym whole) ∙ so_far ∙ ap Some whole_numbers)
