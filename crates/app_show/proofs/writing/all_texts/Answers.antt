use Rattle.std.proofs.Common.{◌∙◌, ◌++◌, ℕ, List, ap, arith, string_bytes}
use Rattle.app_show.proofs.Files.{all_to}
use Rattle.app_show.proofs.writing.all_texts.Goals as goal

pub loop-text-preserved : goal.loop-text-preserved
loop-text-preserved c =
    c.in_ok-push_str.ensures.bytes ∙ (ap (λ (l : List ℕ). string_bytes c.loop-text.all ++ l) c.as_str.ensures.value
    ∙ all_to c.args.texts.now c.loop-text.text-index c.text-item.result (string_bytes c.loop-text.all) (omega arith) c.text-item.is c.loop-text.invariant)
