use Rattle.std.proofs.Common.{◌≡◌, ◌++◌, ◌∷◌, [], ℕ, ◌+◌, List, length, take, sym, ◌∙◌, ap, arith}
use Rattle.std.proofs.lemmas.List.{take_more, append_assoc, length-take-le}
use Rattle.bios_attr.specs.Attributes.{string_entry, string_entries}
use Rattle.bios_attr.specs.AttributeLaws.{entries_more}
use Rattle.bios_attr.proofs.entries.push_strings.Goals as goal

pub loop-handle-preserved : goal.loop-handle-preserved
loop-handle-preserved c =
    let item = c.index-strings-handle.result in
    let k = c.loop-handle.handle in
    let before = take k c.args.strings.now in
    let old = c.args.table.now.items in
    let more : take (k + 1) c.args.strings.now ≡ before ++ item ∷ [] =
    take_more c.args.strings.now k item (omega arith) ∙ ap (λ (x : List ℕ). before ++ x ∷ []) (sym c.index-strings-handle.is) in
    let long : length before ≡ k = length-take-le k c.args.strings.now (omega arith) in
    let first : 0 + length before ≡ k = omega (arith, long) in
    let all : string_entries 0 (take (k + 1) c.args.strings.now) ≡ string_entries 0 before ++ string_entry k item =
    ap (string_entries 0) more ∙ entries_more 0 before item ∙ ap (λ (h : ℕ). string_entries 0 before ++ string_entry h item) first in
    c.in_ok-push_string.ensures
    ∙ ap (λ (xs : List ℕ). xs ++ string_entry k item) c.loop-handle.invariant
    ∙ append_assoc old (string_entries 0 before) (string_entry k item)
    ∙ sym (ap (λ (xs : List ℕ). old ++ xs) all)
