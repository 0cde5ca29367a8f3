use Rattle.std.proofs.Common.{◌≡◌, ◌+◌, ◌++◌, ◌∷◌, [], ℕ, List, take, sym, ◌∙◌, ap, arith}
use Rattle.std.proofs.lemmas.List.{take_more}
use Rattle.bios_attr.specs.Attributes.{with_text, with_texts}
use Rattle.bios_attr.specs.AttributeLaws.{texts_more}
use Rattle.bios_attr.proofs.strings.push_texts.Goals as goal

pub loop-text-preserved : goal.loop-text-preserved
loop-text-preserved c =
    let item = c.text-item.result in
    let before = take c.loop-text.text-index c.args.texts.now in
    let more : take (c.loop-text.text-index + 1) c.args.texts.now ≡ before ++ item ∷ [] =
    take_more c.args.texts.now c.loop-text.text-index item (omega arith) ∙ ap (λ (x : List ℕ). before ++ x ∷ []) (sym c.text-item.is) in
    c.in_ok-push_text.ensures
    ∙ ap (λ (xs : List (List ℕ)). with_text xs item) c.loop-text.invariant
    ∙ sym (ap (with_texts c.args.strings.now.items) more ∙ texts_more c.args.strings.now.items before item)
