use Rattle.std.proofs.Common.{◌++◌, ◌∷◌, [], ℕ, List, length, ◌∙◌, ap, arith, length-append}
use Rattle.report_words.proofs.Packed.{text_more}
use Rattle.report_words.proofs.sensor_names.packed_text.Goals as goal

pub loop-place-preserved : goal.loop-place-preserved
loop-place-preserved c = record {
  text = c.push.ensures ∙ (λ i. c.loop-place.invariant.text i ++ c.packed_at.ensures i ∷ []) ∙ text_more c.loop-place.place c.args.bytes.now;
  few =
      let longer = ap (λ (l : List ℕ). length l) c.push.ensures in
      omega (arith, longer, length-append c.loop-place.text (c.packed_at.result ∷ []), c.loop-place.invariant.few);
}
