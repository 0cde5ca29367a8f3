-- The Set of a string's entry in parts: where the operation is accepted, no part of it is refused.
use Rattle.std.proofs.Common.{◌≡◌, ℕ, zero, suc, ◌+◌, ◌-◌, ◌*◌, ◌/◌, ◌%◌, ◌<◌, ◌≤◌, Bool, true, false, not, List, [], ◌∷◌, length, take, drop, Option, Some, None, refl, sym, ◌∙◌, ap, subst, if◌then◌else◌, lit<, arith}
use Rattle.std.specs.Prelude.{◌==◌, nat_le, nat_lt}
use Rattle.std.specs.Option.{IsSomeAnd}
use Rattle.std.proofs.lemmas.Bool.{and_from, eq-eqb, eqb-true, le-leb, lt-leb, lt-ltb, le-ltb}
use Rattle.std.proofs.lemmas.Bool.Decides.{nat_tests}
use Rattle.std.proofs.lemmas.List.{length-drop, length-take, length-take-le}
use Rattle.record_base.specs.declared.attribute_range.AttributeRange.{AttributeRange}
use Rattle.record_base.specs.declared.attribute_range.AttributeRange.TheVariants as range
use Rattle.record_base.specs.declared.attribute_value.AttributeValue.TheVariants.{Indexes, Text}
use Rattle.record_base.specs.declared.bios_attribute.SetBiosAttribute.{SetBiosAttribute}
use Rattle.record_base.specs.Requests.{byte_at}
use Rattle.record_base.specs.AttributeSizes.{most_sent}
use Rattle.record_base.specs.AttributeValue.{string_type, number_of}
use Rattle.record_base.specs.AttributeRange.{type_of, AllowsValue, IsValue}
use Rattle.record_base.specs.BiosAttribute.{setting}
use Rattle.record_base.specs.BiosAttributeLaws.{few_sent, sent_whole, same_setting}
use Rattle.pldm_base.specs.Parts.{part_length, part_bytes, most_whole}
use Rattle.bios_attr.specs.BiosAttribute.{SetsAttribute, is_settable, op_entry}
use Rattle.bios_attr.specs.declared.bios_attribute.AttributeLimits.{AttributeLimits}
use Rattle.record_kinds.specs.Entries.{text_length, whole_length, op_of, begins_string, allows_length, first_fault, middle_fault, last_fault}
use Rattle.record_kinds.specs.Stagings.{StagedParts, most_stagings, without, with_staged, room_fault}

-- ---- values of so many bytes are texts

comes : {X : Type 0} (b : Bool) (x : X) (P : X → Type 0) → IsSomeAnd (if b then Some x else None) P → (b ≡ true) × P x
comes true x P h = (refl, h)
comes false x P h = absurd h

record IsText (r : AttributeRange) (value : List ℕ) : Type 0 where
  of_type : type_of r ≡ string_type
  counted : 2 + number_of (byte_at value 0) (byte_at value 1) ≡ length value
  allowed : allows_length r (number_of (byte_at value 0) (byte_at value 1)) ≡ true

long_text : (r : AttributeRange) (value : List ℕ) → IsValue r value → most_whole < 3 + length value → IsText r value
long_text (range.Enumeration possible) [] is long = absurd is
long_text (range.Enumeration possible) (count ∷ indexes) is long =
    let here = comes (count == length indexes) (Indexes indexes) (AllowsValue (range.Enumeration possible)) is in
    absurd (omega (arith, here.1.few, possible.few, long))
long_text (range.Text lengths) [] is long = absurd is
long_text (range.Text lengths) (low ∷ []) is long = absurd is
long_text (range.Text lengths) (low ∷ high ∷ text) is long =
    let here = comes _ (Text text) (AllowsValue (range.Text lengths)) is in
    let count : number_of low high ≡ length text = eqb-true _ _ here.0 in
    record {
      of_type = refl;
      counted = omega (arith, count);
      allowed = and_from _ _ (le-leb lengths.least (number_of low high) (omega (arith, count, here.1.enough))) (le-leb (number_of low high) lengths.most (omega (arith, count, here.1.few)));
    }
long_text (range.Integer steps) bytes is long =
    let here = comes (length bytes == 8) _ (AllowsValue (range.Integer steps)) is in
    let eight : length bytes ≡ 8 = eqb-true _ _ here.0 in
    absurd (omega (arith, eight, long))

-- ---- what holds of an operation that is accepted, and goes in parts

pub record IsAccepted (limits : AttributeLimits) (op : SetBiosAttribute) : Type 0 where
  pub settable : is_settable limits op ≡ true
  pub of_string : op.attribute_type ≡ string_type
  pub counted : whole_length (op_entry op) ≡ length (op_entry op)
  pub allowed : allows_length limits.range (text_length (op_entry op)) ≡ true

pub accepted : (limits : AttributeLimits) (op : SetBiosAttribute) (new : List ℕ) → SetsAttribute limits op new → most_whole < length (op_entry op) → IsAccepted limits op
accepted limits op new set long =
    let text = long_text limits.range op.value (subst (IsValue limits.range) set.is_new set.is_value) (omega (arith, long)) in
    let count = text.counted in
    record {
      settable = and_from _ _ (eq-eqb _ _ set.of_type) (ap not set.can_be_set);
      of_string = set.of_type ∙ text.of_type;
      counted = omega (arith, count);
      allowed = text.allowed;
    }

-- ---- the first bytes of an entry

byte_kept : (entry : List ℕ) (place count : ℕ) → place < count → byte_at (take count entry) place ≡ byte_at entry place
byte_kept [] place zero within = absurd (omega (arith, within))
byte_kept [] place (suc count) within = refl
byte_kept (byte ∷ entry) place zero within = absurd (omega (arith, within))
byte_kept (byte ∷ entry) zero (suc count) within = refl
byte_kept (byte ∷ entry) (suc place) (suc count) within = byte_kept entry place count (omega (arith, within))

pub length_kept : (entry : List ℕ) (count : ℕ) → 5 ≤ count → text_length (take count entry) ≡ text_length entry
length_kept entry count within = λ i. number_of (byte_kept entry 3 count (omega (arith, within)) i) (byte_kept entry 4 count (omega (arith, within)) i)

-- ---- no fault

module _ (limits : AttributeLimits) (op : SetBiosAttribute) (is : IsAccepted limits op) (long : most_whole < length (op_entry op)) where
  abbrev entry : List ℕ
  entry = op_entry op

  abbrev start : List ℕ
  start = take part_length entry

  start_length : length start ≡ part_length
  start_length = length-take-le part_length entry (omega (arith, long))

  start_whole : whole_length start ≡ length entry
  start_whole = ap (λ (n : ℕ). 5 + n) (length_kept entry part_length (lit< tt)) ∙ is.counted

  starts : begins_string start ≡ true
  starts = and_from _ _ (eq-eqb _ _ is.of_string) (and_from _ _ (eq-eqb _ _ start_length) (lt-ltb _ _ (subst (λ (n : ℕ). part_length < n) (sym start_whole) (omega (arith, long)))))

  start_allowed : allows_length limits.range (text_length start) ≡ true
  start_allowed = ap (allows_length limits.range) (length_kept entry part_length (lit< tt)) ∙ is.allowed

  pub first_none : first_fault limits start ≡ None
  first_none = λ i. first_where (is.settable i) (starts i) (start_allowed i)
    where
      first_where : (settable begins allowed : Bool) → Option ℕ
      first_where settable begins allowed = if not settable then Some 2 else (if not begins then Some 3 else (if not allowed then Some 2 else None))

  -- a later part, behind so many others
  module _ (place : ℕ) (some : 1 ≤ place) where
    abbrev staged : List ℕ
    staged = take (part_length * place) entry

    abbrev part : List ℕ
    part = part_bytes entry (part_length * place)

    staged_length : part_length * place ≤ length entry → length staged ≡ part_length * place
    staged_length within = length-take-le (part_length * place) entry within

    staged_whole : whole_length staged ≡ length entry
    staged_whole = ap (λ (n : ℕ). 5 + n) (length_kept entry (part_length * place) (omega (arith, some))) ∙ is.counted

    rest_length : length (drop (part_length * place) entry) ≡ length entry - part_length * place
    rest_length = length-drop (part_length * place) entry

    pub middle_none : part_length * suc place < length entry → middle_fault staged (part_length * place) part ≡ None
    middle_none within =
        let staged_size = staged_length (omega (arith, within)) in
        let part_size : length part ≡ part_length = omega (arith, within, rest_length, length-take part_length (drop (part_length * place) entry)) in
        let counted : (part_length * place == length staged) ≡ true = eq-eqb (part_length * place) (length staged) (sym staged_size) in
        let full : (length part == part_length) ≡ true = eq-eqb (length part) part_length part_size in
        let more : nat_le (whole_length staged) (length staged + length part) ≡ false = lt-leb (whole_length staged) (length staged + length part) (omega (arith, staged_whole, staged_size, part_size, within)) in
        λ i. middle_where (counted i) (full i) (more i)
      where
        middle_where : (counted full reaches : Bool) → Option ℕ
        middle_where counted full reaches = if not counted then Some 2 else (if not full then Some 3 else (if reaches then Some 3 else None))

    pub last_none : part_length * place < length entry → length entry ≤ part_length * suc place → last_fault staged (part_length * place) part ≡ None
    last_none begun within =
        let staged_size = staged_length (omega (arith, begun)) in
        let part_size : length part ≡ length entry - part_length * place = omega (arith, within, rest_length, length-take part_length (drop (part_length * place) entry)) in
        let counted : (part_length * place == length staged) ≡ true = eq-eqb (part_length * place) (length staged) (sym staged_size) in
        let whole : (length staged + length part == whole_length staged) ≡ true = eq-eqb (length staged + length part) (whole_length staged) (omega (arith, staged_whole, staged_size, part_size, begun)) in
        let few : nat_lt part_length (length part) ≡ false = le-ltb part_length (length part) (omega (arith, part_size, within)) in
        λ i. last_where (counted i) (whole i) (few i)
      where
        last_where : (counted whole longer : Bool) → Option ℕ
        last_where counted whole longer = if not counted then Some 2 else (if not whole then Some 3 else (if longer then Some 3 else None))

-- ---- the operation of a whole entry

told : (number : ℕ) → number_of (number % 256) (number / 256) ≡ number
told number = omega arith

pub op_back : (op : SetBiosAttribute) → op_of (op_entry op) ≡ op
op_back op =
    ap (λ (n : ℕ). setting n op.attribute_type op.value) (told op.attribute)
    ∙ same_setting op.attribute op.attribute_type (take most_sent op.value) op.value (few_sent op.value) op.fits (sent_whole op.value op.fits)

-- ---- stagings

pub without_staged : (own : ℕ) (entry : List ℕ) (stagings : StagedParts) → without own (with_staged own entry stagings) ≡ without own stagings
without_staged own entry [] = grind (arith, nat_tests)
without_staged own entry (first ∷ rest) = grind (arith, nat_tests, without_staged own entry rest)

pub without_twice : (own : ℕ) (stagings : StagedParts) → without own (without own stagings) ≡ without own stagings
without_twice own [] = refl
without_twice own (first ∷ rest) = grind (arith, nat_tests, without_twice own rest)

pub has_room : (own : ℕ) (stagings : StagedParts) → length (without own stagings) < most_stagings → room_fault stagings own ≡ None
has_room own stagings few = ap (λ (t : Bool). if t then Some 1 else None) (lt-leb most_stagings (length (without own stagings)) few)
