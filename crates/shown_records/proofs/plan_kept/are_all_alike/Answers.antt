use Rattle.std.proofs.Common.{◌≡◌, ◌∙◌, ◌<◌, ℕ, length, Some, true, false, refl, sym, arith}
use Rattle.std.specs.Prelude.{slice_get}
use Rattle.std.proofs.lemmas.Option.{slice_get_within}
use Rattle.record_base.specs.declared.op.Op.{Op}
use Rattle.shown_records.specs.KeptText.{AreAlike}
use Rattle.shown_records.proofs.plan_kept.are_all_alike.Goals as goal

pub returns-then-not-are_alike : goal.returns-then-not-are_alike
returns-then-not-are_alike c = (
  (λ (no : false ≡ true). cc no),
  (λ (alike : AreAlike c.args.first.now c.args.second.now).
      let one : slice_get c.args.first.now c.loop-place.place ≡ Some c.unwrap-one.result = sym c.get.ensures ∙ c.unwrap-one.ensures in
      let other : slice_get c.args.second.now c.loop-place.place ≡ Some c.unwrap-other.result = sym c.get-in-loop-place.ensures ∙ c.unwrap-other.ensures in
      let yes : c.are_alike.result ≡ true = c.are_alike.ensures.1 (alike.alike c.loop-place.place c.unwrap-one.result c.unwrap-other.result one other) in
      let no : c.are_alike.result ≡ false = c.if-not-are_alike.true in
      cc (sym no ∙ yes)),
)

pub returns : goal.returns
returns c = (
  (λ (yes : true ≡ true). record {
    same_length = omega (arith, c.len.ensures.value, c.len-2.ensures.value, c.if-len.false);
    alike = λ (at : ℕ) (one other : Op) (first : slice_get c.args.first.now at ≡ Some one) (second : slice_get c.args.second.now at ≡ Some other).
        let within : at < length c.args.first.now = slice_get_within c.args.first.now at one first in
        c.loop-place.invariant at one other (omega (arith, within, c.loop-place-test.false, c.len-place-end.ensures.value)) first second;
  }),
  (λ (alike : AreAlike c.args.first.now c.args.second.now). refl),
)
