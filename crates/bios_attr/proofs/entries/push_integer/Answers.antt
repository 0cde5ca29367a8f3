use Rattle.std.proofs.Common.{◌≡◌, ◌++◌, ℕ, List, ◌∙◌, ap}
use Rattle.std.specs.Int.{w32, w64, to_le_bytes}
use Rattle.bios_attr.specs.AttributeLaws.{four_pieces}
use Rattle.bios_attr.proofs.entries.push_integer.Goals as goal

pub returns-clause-bytes : goal.returns-clause-bytes
returns-clause-bytes c =
    let old : List ℕ = c.args.table.now.items in
    let steps = c.args.integer.now.steps in
    let none : List ℕ = c.new-fields.result in
    let lower : List ℕ = c.to_le_bytes.result in
    let upper : List ℕ = c.to_le_bytes-2.result in
    let increment : List ℕ = c.to_le_bytes-3.result in
    let default : List ℕ = c.to_le_bytes-4.result in
    let made : c.as_slice.result.now ≡ none ++ (lower ++ (upper ++ (increment ++ default))) =
    c.as_slice.ensures.value
    ∙ c.extend_from_slice-4.ensures
    ∙ ap (λ (xs : List ℕ). xs ++ default) (c.extend_from_slice-3.ensures ∙ ap (λ (xs : List ℕ). xs ++ increment) (c.extend_from_slice-2.ensures ∙ ap (λ (xs : List ℕ). xs ++ upper) c.extend_from_slice.ensures))
    ∙ four_pieces none lower upper increment default in
    c.in_ok-extend_from_slice.ensures.items
    ∙ ap (λ (xs : List ℕ). old ++ xs) made
    ∙ ap (λ (xs : List ℕ). old ++ (xs ++ (lower ++ (upper ++ (increment ++ default))))) c.new-fields.ensures
    ∙ ap (λ (xs : List ℕ). old ++ (xs ++ (upper ++ (increment ++ default)))) c.to_le_bytes.ensures
    ∙ ap (λ (xs : List ℕ). old ++ (to_le_bytes w64 steps.lower ++ (xs ++ (increment ++ default)))) c.to_le_bytes-2.ensures
    ∙ ap (λ (xs : List ℕ). old ++ (to_le_bytes w64 steps.lower ++ (to_le_bytes w64 steps.upper ++ (xs ++ default)))) c.to_le_bytes-3.ensures
    ∙ ap (λ (xs : List ℕ). old ++ (to_le_bytes w64 steps.lower ++ (to_le_bytes w64 steps.upper ++ (to_le_bytes w32 steps.increment ++ xs)))) c.to_le_bytes-4.ensures
