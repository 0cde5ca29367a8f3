-- What undoes an operation gives an attribute a value that is short enough, and its request fits.
use Rattle.std.proofs.Common.{◌≡◌, ℕ, ◌%◌, ◌≤◌, ◌==◌, nat_le, Bool, true, false, if◌then◌else◌, List, [], ◌∷◌, length, take, drop, Option, Some, None, refl, sym, ◌∙◌, ap, subst, arith}
use Rattle.std.specs.Prelude.{slice_index}
use Rattle.std.specs.Int.{w64, from_le_bytes}
use Rattle.std.specs.Option.{option_map}
use Rattle.std.proofs.lemmas.Bool.{true≢false}
use Rattle.std.proofs.lemmas.Bool.Decides.{nat_tests}
use Rattle.std.proofs.lemmas.List.{length-drop, length-take}
use Rattle.std.proofs.lemmas.Option.{same_Some}
use Rattle.record_base.specs.AttributeSizes.{most_value, most_text, most_indexes, most_sent}
use Rattle.record_base.specs.AttributeValue.{indexes_in, text_in, number_in, number_of, value_in, enumeration_type, string_type, integer_type}
use Rattle.record_base.specs.declared.attribute_value.AttributeValue.{AttributeValue}
use Rattle.record_base.specs.declared.attribute_value.AttributeValue.TheVariants.{Indexes, Text, Number}
use Rattle.record_base.specs.MaskLaws.{both_true}
use Rattle.record_base.specs.declared.op.Op.{Op}
use Rattle.record_base.specs.declared.op.Op.TheVariants as op
use Rattle.bios_attr.specs.declared.value_entry.ValueEntry.{ValueEntry}
use Rattle.bios_attr.specs.ValueEntry.{entry_in}
use Rattle.bios_attr.specs.EntryParts.{start_and_end}
use Rattle.bios_attr.specs.BiosAttribute.{is_within, is_entry_within, is_attribute_reply, undo_attribute}
use Rattle.record_kinds.specs.Limits.{inverse}
use Rattle.undo_core.specs.Room.{HasShortValue}

-- the value is one that an attribute of some board can have
abbrev is_value_within : Option AttributeValue → Bool
is_value_within (Some value) = is_within value
is_value_within None = false

few_indexes : (bytes : List ℕ) → is_value_within (indexes_in bytes) ≡ true → length bytes ≤ most_value
few_indexes [] is = omega arith
few_indexes (count ∷ indexes) is = at (count == length indexes) is where
  at : (same : Bool) → is_value_within (if same then Some (Indexes indexes) else None) ≡ true → length (count ∷ indexes) ≤ most_value
  at true within =
      let few : nat_le (length indexes) most_indexes ≡ true = (both_true (nat_le 1 (length indexes)) (nat_le (length indexes) most_indexes) within).1 in
      let most : length indexes ≤ most_indexes = grind (arith, nat_tests) in
      omega (arith, most)
  at false within = absurd (true≢false (sym within))

few_text : (bytes : List ℕ) → is_value_within (text_in bytes) ≡ true → length bytes ≤ most_value
few_text [] is = omega arith
few_text (low ∷ []) is = omega arith
few_text (low ∷ high ∷ text) is = at (number_of low high == length text) is where
  at : (same : Bool) → is_value_within (if same then Some (Text text) else None) ≡ true → length (low ∷ high ∷ text) ≤ most_value
  at true within =
      let few : nat_le (length text) most_text ≡ true = within in
      let most : length text ≤ most_text = grind (arith, nat_tests) in
      omega (arith, most)
  at false within = absurd (true≢false (sym within))

few_number : (bytes : List ℕ) → is_value_within (number_in bytes) ≡ true → length bytes ≤ most_value
few_number bytes is = at (length bytes == 8) refl is where
  at : (same : Bool) → (length bytes == 8) ≡ same → is_value_within (if same then Some (Number (from_le_bytes w64 bytes)) else None) ≡ true → length bytes ≤ most_value
  at true eight within =
      let long : length bytes ≡ 8 = grind (arith, nat_tests) in
      omega (arith, long)
  at false eight within = absurd (true≢false (sym within))

few_value : (code : ℕ) (bytes : List ℕ) → is_value_within (value_in code bytes) ≡ true → length bytes ≤ most_value
few_value code bytes is = at (code == enumeration_type) (code == string_type) (code == integer_type) is where
  at : (indexes text number : Bool)
      → is_value_within (if indexes then indexes_in bytes else (if text then text_in bytes else (if number then number_in bytes else None))) ≡ true → length bytes ≤ most_value
  at true text number within = few_indexes bytes within
  at false true number within = few_text bytes within
  at false false true within = few_number bytes within
  at false false false within = absurd (true≢false (sym within))

entry_within : (as_entry : AttributeValue → ValueEntry) → ((v : AttributeValue) → (as_entry v).value ≡ v) → (o : Option AttributeValue)
    → is_entry_within (option_map as_entry o) ≡ is_value_within o
entry_within as_entry same (Some v) = ap is_within (same v)
entry_within as_entry same None = refl

few_entry : (entry : List ℕ) → is_entry_within (entry_in entry) ≡ true → length (drop 3 entry) ≤ most_value
few_entry [] is = omega arith
few_entry (low ∷ []) is = omega arith
few_entry (low ∷ high ∷ []) is = omega arith
few_entry (low ∷ high ∷ code ∷ bytes) is =
    few_value (code % 128) bytes
    (sym (entry_within (λ v. record { attribute = number_of low high; read_only = nat_le 128 code; value = v }) (λ v. refl) (value_in (code % 128) bytes)) ∙ is)

few_shown : (reply : List ℕ) → is_attribute_reply reply ≡ true → length (take most_sent (drop 8 reply)) ≤ most_value
few_shown reply is =
    let entry : length (drop 3 (drop 5 reply)) ≤ most_value = few_entry (drop 5 reply) (both_true (slice_index reply 4 == start_and_end) (is_entry_within (entry_in (drop 5 reply))) is).1 in
    omega (arith, entry, length-drop 3 (drop 5 reply), length-drop 5 reply, length-drop 8 reply, length-take most_sent (drop 8 reply))

-- what undoes an operation on an attribute
few_undone : (reply : List ℕ) (tested : Bool) → is_attribute_reply reply ≡ tested → (back : Op)
    → option_map op.BiosAttribute (if tested then Some (undo_attribute reply) else None) ≡ Some back → HasShortValue back
few_undone reply true is back made = subst HasShortValue (same_Some (op.BiosAttribute (undo_attribute reply)) back made) (few_shown reply is)
few_undone reply false is back made = let both : None ≡ Some back = made in cc both

of_short : {O : Type 0} (as_op : O → Op) (made : Option O) (back : Op) → option_map as_op made ≡ Some back → ((own : O) → HasShortValue (as_op own)) → HasShortValue back
of_short as_op None back is all = let both : None ≡ Some back = is in cc both
of_short as_op (Some own) back is all = subst HasShortValue (same_Some (as_op own) back is) (all own)

pub short_undo : (any back : Op) (reply : List ℕ) → inverse any reply ≡ Some back → HasShortValue back
short_undo (op.BiosAttribute own) back reply is = few_undone reply (is_attribute_reply reply) refl back is
short_undo _ back reply is = of_short _ _ back is (λ o. tt)
