-- The laws of the kind NumericEffecter.
use Rattle.std.proofs.Common.{◌≡◌, ℕ, ◌≤◌, List, [], ◌∷◌, ◌++◌, length, drop, Bool, true, false, ◌||◌, ◌==◌, nat_le, if◌then◌else◌, Ok, Err, refl, sym, ◌∙◌, ap, subst, lit<, arith, length-append}
use Rattle.std.proofs.Math.Seq.{drop-append_seam}
use Rattle.std.proofs.lemmas.Bool.Decides.{nat_tests}
use Rattle.two_wire.specs.Codes.{pldm_invalid_data, pldm_invalid_length}
use Rattle.record_base.specs.declared.numeric_size.NumericSize.{NumericSize}
use Rattle.record_base.specs.declared.numeric_size.NumericSize.TheVariants.{U8, S8, U16, S16, U32, S32}
use Rattle.record_base.specs.declared.numeric_range.NumericRange.{NumericRange}
use Rattle.record_base.specs.declared.numeric_effecter.SetNumericEffecter.{SetNumericEffecter}
use Rattle.record_base.specs.MaskLaws.{both_true, both}
use Rattle.record_base.specs.Meaning.{DecidesValue, IsRefusal}
use Rattle.record_base.specs.InverseLaws.{some_where, made_where, tested_same, same_tested}
use Rattle.record_base.specs.Kind.{KindLaws, RecordLaws}
use Rattle.record_base.specs.NumericSize.{code_of, width_of}
use Rattle.record_base.specs.NumericEffecter.{IsNumeric, is_numeric}
use Rattle.record_base.specs.PartLaws.{IsNumeric-prop}
use Rattle.effecter_recs.specs.declared.numeric.NumericLimits.{NumericLimits}
use Rattle.effecter_recs.specs.Numeric.{value_bytes, value_of, SetsNumeric, is_accepted, numeric_view, said_width, IsNumericReply, present_in, is_enabled_reply, undo_numeric, words, record_words}

-- ---- tests say what they are named for

le_true : (a b : ℕ) → a ≤ b → nat_le a b ≡ true
le_true a b h = grind (arith, nat_tests)

true_le : (a b : ℕ) → nat_le a b ≡ true → a ≤ b
true_le a b h = grind (arith, nat_tests)

pub numeric_true : (range : NumericRange) (value : List ℕ) → is_numeric range value ≡ true → IsNumeric range value
numeric_true range value h =
    let tests = both_true _ _ h in
    let bounds = both_true _ _ tests.1 in
    record { of_size = tested_same _ _ tests.0; above = true_le _ _ bounds.0; below = true_le _ _ bounds.1 }

pub true_numeric : (range : NumericRange) (value : List ℕ) → IsNumeric range value → is_numeric range value ≡ true
true_numeric range value is = both _ _ (same_tested _ _ is.of_size) (both _ _ (le_true _ _ is.above) (le_true _ _ is.below))

-- ---- lengths

-- a number of bytes that a size has
abbrev is_width : ℕ → Bool
is_width n = (n == 1) || (n == 2) || (n == 4)

width_is : (size : NumericSize) → is_width (width_of size) ≡ true
width_is U8 = refl
width_is S8 = refl
width_is U16 = refl
width_is S16 = refl
width_is U32 = refl
width_is S32 = refl

known_code : (size : NumericSize) → code_of size ≤ 5
known_code U8 = omega arith
known_code S8 = omega arith
known_code U16 = omega arith
known_code S16 = omega arith
known_code U32 = omega arith
known_code S32 = omega arith

-- a reply says the width of its size
said_is : (size : NumericSize) → said_width (code_of size) ≡ width_of size
said_is U8 = refl
said_is S8 = refl
said_is U16 = refl
said_is S16 = refl
said_is U32 = refl
said_is S32 = refl

few : (n : ℕ) → is_width n ≡ true → n ≤ 4
few n h = grind (arith, nat_tests)

-- a value's bytes, read and written again
same_bytes : (xs : List ℕ) → is_width (length xs) ≡ true → value_bytes (value_of xs) ≡ xs
same_bytes (a ∷ []) h = refl
same_bytes (a ∷ b ∷ []) h = refl
same_bytes (a ∷ b ∷ c ∷ d ∷ []) h = refl
same_bytes [] h = cc
same_bytes (a ∷ b ∷ c ∷ []) h = cc
same_bytes (a ∷ b ∷ c ∷ d ∷ e ∷ xs) h = let short : length (a ∷ b ∷ c ∷ d ∷ e ∷ xs) ≤ 4 = few _ h in absurd (omega (arith, short))

is_width_of : (range : NumericRange) (value : List ℕ) → IsNumeric range value → is_width (length value) ≡ true
is_width_of range value is = ap is_width is.of_size ∙ width_is range.size

-- ---- what a Set makes

data_refused : IsRefusal pldm_invalid_data
data_refused = record { is_fault = lit< tt; is_byte = lit< tt; not_busy = λ same. omega arith; is_ready = λ same. omega arith }

length_refused : IsRefusal pldm_invalid_length
length_refused = record { is_fault = lit< tt; is_byte = lit< tt; not_busy = λ same. omega arith; is_ready = λ same. omega arith }

decided : (limits : NumericLimits) (op : SetNumericEffecter) (a b c : Bool)
    → (op.size == code_of limits.range.size) ≡ a → (length (value_bytes op.value) == width_of limits.range.size) ≡ b → is_accepted limits (value_bytes op.value) ≡ c
    → DecidesValue (if a then (if b then (if c then Ok (value_bytes op.value) else Err pldm_invalid_data) else Err pldm_invalid_length) else Err pldm_invalid_data) (SetsNumeric limits op)
decided limits op true true true size length is =
    let tests = both_true _ _ is in
    record { enabled = tests.0; of_size = tested_same _ _ size; is_new = refl; is_value = numeric_true _ _ tests.1 }
decided limits op true true false size length is = λ new s.
    let is_value : IsNumeric limits.range (value_bytes op.value) = subst (IsNumeric limits.range) s.is_new s.is_value in
    let takes : is_accepted limits (value_bytes op.value) ≡ true = both _ _ s.enabled (true_numeric _ _ is_value) in cc
decided limits op true false c size length_is is = λ new s.
    let has : (length (value_bytes op.value) == width_of limits.range.size) ≡ true = same_tested _ _ (sym (ap length s.is_new) ∙ s.is_value.of_size) in cc
decided limits op false b c size length_is is = λ new s.
    let has : (op.size == code_of limits.range.size) ≡ true = same_tested _ _ s.of_size in cc

refused : (made : List ℕ) (code : ℕ) (a b c : Bool) → (if a then (if b then (if c then Ok made else Err pldm_invalid_data) else Err pldm_invalid_length) else Err pldm_invalid_data) ≡ Err code → IsRefusal code
refused made code true true true is = cc
refused made code true true false is = let same : pldm_invalid_data ≡ code = cc in subst IsRefusal same data_refused
refused made code true false c is = let same : pldm_invalid_length ≡ code = cc in subst IsRefusal same length_refused
refused made code false b c is = let same : pldm_invalid_data ≡ code = cc in subst IsRefusal same data_refused

-- ---- what a Get replies

reply_is : (limits : NumericLimits) (value : List ℕ) → IsNumeric limits.range value → IsNumericReply (numeric_view limits value)
reply_is limits value is = record {
  known = known_code limits.range.size;
  whole = omega (arith, length-append value value, is.of_size, said_is limits.range.size);
}

-- the value twice determines the value
twice_tells : (a b : List ℕ) → length a ≡ length b → a ++ a ≡ b ++ b → a ≡ b
twice_tells a b long same = sym (drop-append_seam a a) ∙ ap (λ (n : ℕ). drop n (a ++ a)) long ∙ ap (drop (length b)) same ∙ drop-append_seam b b

-- a Get reply shows the value as the present one
present_is : (limits : NumericLimits) (value : List ℕ) → IsNumeric limits.range value → present_in (numeric_view limits value) ≡ value
present_is limits value is = ap (λ (n : ℕ). drop n (value ++ value)) (said_is limits.range.size ∙ sym is.of_size) ∙ drop-append_seam value value

-- the inverse from a Get reply brings the value back
undoes_numeric : (limits : NumericLimits) (op : SetNumericEffecter) (old : List ℕ) → (limits.enabled ≡ true) → IsNumeric limits.range old → SetsNumeric limits (undo_numeric op (numeric_view limits old)) old
undoes_numeric limits op old enabled is = record {
  enabled = enabled;
  of_size = refl;
  is_new = sym (ap (λ (xs : List ℕ). value_bytes (value_of xs)) (present_is limits old is) ∙ same_bytes old (is_width_of limits.range old is));
  is_value = is;
}

-- ---- the kind

pub kind_laws : KindLaws words
kind_laws = record {
  set_short = λ op. omega arith;
  invertible = λ op reply. some_where (is_enabled_reply reply) (undo_numeric op reply) _
      (λ is. let tests = both_true _ _ is in let more = both_true _ _ tests.1 in (record { known = true_le _ _ tests.0; whole = tested_same _ _ more.0 }, tested_same _ _ more.1))
      (λ h. both _ _ (le_true _ _ h.0.known) (both _ _ (same_tested _ _ h.0.whole) (same_tested _ _ h.1)));
  plain = λ op made reply is. tt;
}

pub record_laws : (limits : NumericLimits) → RecordLaws words (record_words limits)
record_laws limits = record {
  one_proof = IsNumeric-prop limits.range;
  taken = λ op old new done. tt;
  decides = λ op value. decided limits op _ _ _ refl refl refl;
  refuses = λ op value code is. refused (value_bytes op.value) code (op.size == code_of limits.range.size) (length (value_bytes op.value) == width_of limits.range.size) (is_accepted limits (value_bytes op.value)) is;
  determined = λ op old new other done also. done.is_new ∙ sym also.is_new;
  keeps = λ op old new is_valid done. done.is_value;
  fits = λ op old new done. is_width_of limits.range new done.is_value;
  replies = λ op value live here is_valid. reply_is limits value is_valid;
  get_short = λ id value live here is_valid. let size : length value ≤ 4 = few (length value) (is_width_of limits.range value is_valid) in omega (arith, length-append value value);
  steady = λ value live other. refl;
  tells = λ value other live is_valid is_other same. twice_tells value other (is_valid.of_size ∙ sym is_other.of_size) (ap (drop 1) same);
  same_record = λ op made value live here is_valid is. ap (λ (o : SetNumericEffecter). o.effecter) (sym (made_where (is_enabled_reply (numeric_view limits value)) (undo_numeric op (numeric_view limits value)) made is).1);
  undoes = λ op made old new live is_valid done is.
      subst (λ (o : SetNumericEffecter). SetsNumeric limits o old) (made_where (is_enabled_reply (numeric_view limits old)) (undo_numeric op (numeric_view limits old)) made is).1 (undoes_numeric limits op old done.enabled is_valid);
}
