use Rattle.std.proofs.Common.{◌≡◌, ◌-◌, ℕ, List, length, take, drop, true, arith, length-drop, nat_le, Some, sym, ◌∙◌}
use Rattle.std.proofs.lemmas.List.{take_all}
use Rattle.record_base.specs.AttributeRangeLaws.{le_true}
use Rattle.bios_attr.specs.declared.attribute_entry.KindFields.TheVariants.{Integer}
use Rattle.bios_attr.specs.AttributeEntry.{numbers_in}
use Rattle.bios_attr.specs.EntryLaws.{fits}
use Rattle.bios_attr.proofs.attribute_entry.integer_at.Goals as goal

pub returns : goal.returns
returns c =
    let bytes : List ℕ = c.args.bytes.now in
    let enough : nat_le 28 (length bytes) ≡ true = le_true 28 (length bytes) c.if-bytes-lt-NUMBERS.false in
    let whole : take (length bytes - 28) (drop 28 bytes) ≡ drop 28 bytes = take_all (length bytes - 28) (drop 28 bytes) (omega (arith, length-drop 28 bytes)) in
    (λ i. Some (Integer (c.numbers_in-fields.ensures i), (c.new.ensures ∙ whole) i)) ∙ sym (fits (nat_le 28 (length bytes)) (Some (Integer (numbers_in bytes), drop 28 bytes)) enough)
