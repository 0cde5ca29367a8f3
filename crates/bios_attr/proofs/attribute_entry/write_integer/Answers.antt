use Rattle.std.proofs.Common.{◌++◌, ℕ, List, ◌∙◌, ap}
use Rattle.std.specs.Int.{w32, w64, to_le_bytes}
use Rattle.bios_attr.specs.AttributeLaws.{four_pieces}
use Rattle.bios_attr.proofs.attribute_entry.write_integer.Goals as goal

pub returns : goal.returns
returns g c =
    let old : List ℕ = g.B.Buffer.bytes c.args.out.now in
    let fields = c.args.fields.now in
    let lower = c.to_le_bytes.result in
    let upper = c.to_le_bytes-2.result in
    let increment = c.to_le_bytes-3.result in
    let default = c.to_le_bytes-4.result in
    c.extend_from_slice-4.ensures
    ∙ ap (λ (xs : List ℕ). xs ++ default) (c.extend_from_slice-3.ensures ∙ ap (λ (xs : List ℕ). xs ++ increment) (c.extend_from_slice-2.ensures ∙ ap (λ (xs : List ℕ). xs ++ upper) c.extend_from_slice.ensures))
    ∙ four_pieces old lower upper increment default
    ∙ ap (λ (xs : List ℕ). old ++ (xs ++ (upper ++ (increment ++ default)))) c.to_le_bytes.ensures
    ∙ ap (λ (xs : List ℕ). old ++ (to_le_bytes w64 fields.lower ++ (xs ++ (increment ++ default)))) c.to_le_bytes-2.ensures
    ∙ ap (λ (xs : List ℕ). old ++ (to_le_bytes w64 fields.lower ++ (to_le_bytes w64 fields.upper ++ (xs ++ default)))) c.to_le_bytes-3.ensures
    ∙ ap (λ (xs : List ℕ). old ++ (to_le_bytes w64 fields.lower ++ (to_le_bytes w64 fields.upper ++ (to_le_bytes w32 fields.increment ++ xs)))) c.to_le_bytes-4.ensures
