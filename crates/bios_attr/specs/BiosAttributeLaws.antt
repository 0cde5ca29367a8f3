-- The laws of the value of a BIOS attribute, as a kind of record.
use Rattle.std.proofs.Common.{◌≡◌, ℕ, ◌%◌, List, length, drop, Bool, true, false, ◌==◌, not, if◌then◌else◌, is_some, Option, Some, None, Ok, Err, refl, sym, ◌∙◌, ap, subst, lit<, arith}
use Rattle.std.specs.Option.{IsSomeAnd, option_map}
use Rattle.std.proofs.Props.{props}
use Rattle.two_wire.specs.Codes.{pldm_invalid_data, pldm_invalid_length, pldm_invalid_attribute}
use Rattle.record_base.specs.MaskLaws.{both_true, both}
use Rattle.record_base.specs.Meaning.{DecidesValue, IsRefusal}
use Rattle.record_base.specs.InverseLaws.{some_where, made_where, tested_same, same_tested}
use Rattle.record_base.specs.Kind.{KindLaws, RecordLaws}
use Rattle.record_base.specs.declared.attribute_range.AttributeRange.{AttributeRange}
use Rattle.record_base.specs.declared.attribute_range.AttributeRange.TheVariants as range
use Rattle.record_base.specs.declared.attribute_value.AttributeValue.{AttributeValue}
use Rattle.record_base.specs.declared.attribute_value.AttributeValue.TheVariants.{Indexes, Text, Number}
use Rattle.record_base.specs.BiosAttributeLaws.{sent_whole}
use Rattle.record_base.specs.AttributeRangeLaws.{le_true, true_allows, allows_true, Allows-prop, value_length, length_tested, number_back}
use Rattle.bios_attr.specs.declared.value_entry.ValueEntry.{ValueEntry}
use Rattle.bios_attr.specs.declared.bios_attribute.AttributeLimits.{AttributeLimits}
use Rattle.record_base.specs.declared.bios_attribute.SetBiosAttribute.{SetBiosAttribute}
use Rattle.record_base.specs.AttributeValue.{value_in}
use Rattle.bios_attr.specs.ValueEntry.{shown_type}
use Rattle.record_base.specs.AttributeRange.{type_of, AllowsValue, IsValue, is_allowed}
use Rattle.bios_attr.specs.BiosAttribute.{SetsAttribute, is_settable, value_given, attribute_view, is_within, is_entry_within, IsAttributeReply, is_attribute_reply, undo_attribute, words, record_words}

allowed : (r : AttributeRange) (o : Option AttributeValue) → is_allowed r o ≡ true → IsSomeAnd o (AllowsValue r)
allowed r (Some v) h = true_allows r v h
allowed r None h = absurd cc

is_allowed_where : (r : AttributeRange) (o : Option AttributeValue) → IsSomeAnd o (AllowsValue r) → is_allowed r o ≡ true
is_allowed_where r (Some v) is = allows_true r v is
is_allowed_where r None is = absurd is

there : (r : AttributeRange) (o : Option AttributeValue) → IsSomeAnd o (AllowsValue r) → is_some o ≡ true
there r (Some v) is = refl
there r None is = absurd is

-- ---- that a value is valid is proved in one way at most

some_prop : (r : AttributeRange) (o : Option AttributeValue) → IsProp (IsSomeAnd o (AllowsValue r))
some_prop r (Some v) = Allows-prop r v
some_prop r None = hlevel props

-- ---- what a Set makes

data_refused : IsRefusal pldm_invalid_data
data_refused = record { is_fault = lit< tt; is_byte = lit< tt; not_busy = λ same. omega arith; is_ready = λ same. omega arith }

length_refused : IsRefusal pldm_invalid_length
length_refused = record { is_fault = lit< tt; is_byte = lit< tt; not_busy = λ same. omega arith; is_ready = λ same. omega arith }

attribute_refused : IsRefusal pldm_invalid_attribute
attribute_refused = record { is_fault = lit< tt; is_byte = lit< tt; not_busy = λ same. omega arith; is_ready = λ same. omega arith }

not_true : (b : Bool) → not b ≡ true → b ≡ false
not_true true h = cc
not_true false h = refl

settable : (limits : AttributeLimits) (op : SetBiosAttribute) (new : List ℕ) → SetsAttribute limits op new → is_settable limits op ≡ true
settable limits op new s = both _ _ (same_tested _ _ s.of_type) (ap not s.can_be_set)

given : (limits : AttributeLimits) (op : SetBiosAttribute) (new : List ℕ) → SetsAttribute limits op new → IsValue limits.range op.value
given limits op new s = subst (IsValue limits.range) s.is_new s.is_value

decided : (limits : AttributeLimits) (op : SetBiosAttribute) (a b c d : Bool)
    → (op.attribute == limits.handle) ≡ a → is_settable limits op ≡ b → is_some (value_given limits op) ≡ c → is_allowed limits.range (value_given limits op) ≡ d
    → DecidesValue (if a then (if b then (if c then (if d then Ok op.value else Err pldm_invalid_data) else Err pldm_invalid_length) else Err pldm_invalid_data) else Err pldm_invalid_attribute) (SetsAttribute limits op)
decided limits op true true true true own set some is =
    let tests = both_true _ _ set in
    record { own = tested_same _ _ own; of_type = tested_same _ _ tests.0; can_be_set = not_true _ tests.1; is_new = refl; is_value = allowed limits.range (value_given limits op) is }
decided limits op true true true false own set some is = λ new s.
    let takes : is_allowed limits.range (value_given limits op) ≡ true = is_allowed_where limits.range (value_given limits op) (given limits op new s) in cc
decided limits op true true false d own set some is = λ new s.
    let has : is_some (value_given limits op) ≡ true = there limits.range (value_given limits op) (given limits op new s) in cc
decided limits op true false c d own set some is = λ new s.
    let can : is_settable limits op ≡ true = settable limits op new s in cc
decided limits op false b c d own set some is = λ new s.
    let has : (op.attribute == limits.handle) ≡ true = same_tested _ _ s.own in cc

refused : (made : List ℕ) (code : ℕ) (a b c d : Bool)
    → (if a then (if b then (if c then (if d then Ok made else Err pldm_invalid_data) else Err pldm_invalid_length) else Err pldm_invalid_data) else Err pldm_invalid_attribute) ≡ Err code → IsRefusal code
refused made code true true true true is = cc
refused made code true true true false is = let same : pldm_invalid_data ≡ code = cc in subst IsRefusal same data_refused
refused made code true true false d is = let same : pldm_invalid_length ≡ code = cc in subst IsRefusal same length_refused
refused made code true false c d is = let same : pldm_invalid_data ≡ code = cc in subst IsRefusal same data_refused
refused made code false b c d is = let same : pldm_invalid_attribute ≡ code = cc in subst IsRefusal same attribute_refused

-- ---- what a Get replies

-- a type is told by an entry's
type_kept : (read_only : Bool) (r : AttributeRange) → shown_type read_only (type_of r) % 128 ≡ type_of r
type_kept true (range.Enumeration possible) = refl
type_kept true (range.Text lengths) = refl
type_kept true (range.Integer steps) = refl
type_kept false (range.Enumeration possible) = refl
type_kept false (range.Text lengths) = refl
type_kept false (range.Integer steps) = refl

-- what an attribute can have is within the limits of all
within : (r : AttributeRange) (v : AttributeValue) → AllowsValue r v → is_within v ≡ true
within (range.Enumeration possible) (Indexes indexes) is = both _ _ (le_true _ _ is.some) (le_true _ _ (omega (arith, is.few, possible.few)))
within (range.Text lengths) (Text text) is = le_true _ _ (omega (arith, is.few, lengths.few))
within (range.Integer steps) (Number n) is = refl
within (range.Enumeration possible) (Text text) is = absurd is
within (range.Enumeration possible) (Number n) is = absurd is
within (range.Text lengths) (Indexes indexes) is = absurd is
within (range.Text lengths) (Number n) is = absurd is
within (range.Integer steps) (Indexes indexes) is = absurd is
within (range.Integer steps) (Text text) is = absurd is

entry_within : (r : AttributeRange) (entry : AttributeValue → ValueEntry) (o : Option AttributeValue) → ((v : AttributeValue) → (entry v).value ≡ v) → IsSomeAnd o (AllowsValue r) → is_entry_within (option_map entry o) ≡ true
entry_within r entry (Some v) shows is = ap is_within (shows v) ∙ within r v is
entry_within r entry None shows is = absurd is

reply_is : (limits : AttributeLimits) (value : List ℕ) → IsValue limits.range value → IsAttributeReply (attribute_view limits value)
reply_is limits value is = record {
  flagged = refl;
  holds_entry = entry_within limits.range _ (value_in (shown_type limits.read_only (type_of limits.range) % 128) value) (λ v. refl)
      (subst (λ (code : ℕ). IsSomeAnd (value_in code value) (AllowsValue limits.range)) (sym (type_kept limits.read_only limits.range)) is);
}

undoes_attribute : (limits : AttributeLimits) (old : List ℕ) → limits.read_only ≡ false → IsValue limits.range old → SetsAttribute limits (undo_attribute (attribute_view limits old)) old
undoes_attribute limits old can is = record {
  own = number_back limits.handle;
  of_type = ap (λ (read_only : Bool). shown_type read_only (type_of limits.range)) can;
  can_be_set = can;
  is_new = sym (sent_whole old (let size = value_length limits.range old is in omega (arith, size.most)));
  is_value = is;
}

-- ---- the kind

pub kind_laws : KindLaws words
kind_laws = record {
  set_short = λ op. omega arith;
  invertible = λ op reply. some_where (is_attribute_reply reply) (undo_attribute reply) _
      (λ is. let tests = both_true _ _ is in (record { flagged = tested_same _ _ tests.0; holds_entry = tests.1 }, tt))
      (λ h. both _ _ (same_tested _ _ h.0.flagged) h.0.holds_entry);
  plain = λ op made reply is. tt;
}

pub record_laws : (limits : AttributeLimits) → RecordLaws words (record_words limits)
record_laws limits = record {
  one_proof = λ value. some_prop limits.range (value_in (type_of limits.range) value);
  taken = λ op old new done. done.own;
  decides = λ op value. decided limits op _ _ _ _ refl refl refl refl;
  refuses = λ op value code is. refused op.value code (op.attribute == limits.handle) (is_settable limits op) (is_some (value_given limits op)) (is_allowed limits.range (value_given limits op)) is;
  determined = λ op old new other done also. done.is_new ∙ sym also.is_new;
  keeps = λ op old new is_valid done. done.is_value;
  fits = λ op old new done. length_tested (length new) (value_length limits.range new done.is_value);
  replies = λ op value live here is_valid. reply_is limits value is_valid;
  get_short = λ handle value live here is_valid. let size = value_length limits.range value is_valid in omega (arith, size.most);
  steady = λ value live other. refl;
  tells = λ value other live is_valid is_other same. ap (drop 8) same;
  same_record = λ op made value live here is_valid is.
      ap (λ (o : SetBiosAttribute). o.attribute) (sym (made_where (is_attribute_reply (attribute_view limits value)) (undo_attribute (attribute_view limits value)) made is).1) ∙ number_back limits.handle ∙ sym here;
  undoes = λ op made old new live is_valid done is.
      subst (λ (o : SetBiosAttribute). SetsAttribute limits o old) (made_where (is_attribute_reply (attribute_view limits old)) (undo_attribute (attribute_view limits old)) made is).1 (undoes_attribute limits old done.can_be_set is_valid);
}
