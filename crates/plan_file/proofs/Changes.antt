-- What a step without a fault has in the fields of its kind.
use Rattle.std.proofs.Common.{◌≡◌, ◌≢◌, ◌&&◌, nat_lt, ℕ, zero, suc, ◌+◌, ◌==◌, ◌≤◌, List, Bool, true, false, not, ◌||◌, Option, Some, None, option_and_then, refl, sym, ap, ◌∙◌, arith, nat_le, codes}
use Rattle.std.proofs.lemmas.Bool.{and_parts, false≢true}
use Rattle.std.proofs.lemmas.Nat.Bits.{bit_at-zero}
use Rattle.std.specs.Int.{bit_at}
use Rattle.std.proofs.lemmas.Bool.Decides.{nat_tests}
use Rattle.std.proofs.lemmas.Option.{same_Some}
use Rattle.std.specs.List.{list_all}
use Rattle.std.specs.Str.{bytes_eq}
use Rattle.record_base.specs.Masks.{has}
use Rattle.toml.specs.Data.{Data, Members, as_str}
use Rattle.text_fields.specs.declared.field.Field.{Field}
use Rattle.text_fields.specs.declared.field.Field.TheVariants as field
use Rattle.text_fields.specs.declared.row.Need.{Need}
use Rattle.text_fields.specs.declared.row.Need.TheVariants as need
use Rattle.text_fields.specs.declared.row.Shape.TheVariants as shape
use Rattle.text_fields.specs.Trees.{in_field, members, natural, number_in, members_in, or_none}
use Rattle.text_fields.specs.Ranges.{passes, has_text, is_between, is_offset, is_array_of, is_selection}
use Rattle.plan_file.specs.Kinds.Thresholds.{is_given}
use Rattle.text_fields.proofs.Rows.{Sound, value_of, not_false}

-- ---- numbers

most_cases : (least most : ℕ) (d n : ℕ) → passes (is_between least most) (Some d) ≡ true → d ≡ n → n ≤ most
most_cases least most d n within same = let (low, high) = and_parts (nat_le least d) (nat_le d most) within in grind (arith, nat_tests)

natural_cases : (least most : ℕ) (o : Option ℕ) (n : ℕ) → not (passes (is_between least most) o) ≡ false → o ≡ Some n → n ≤ most
natural_cases least most (Some d) n within is = most_cases least most d n (not_false (passes (is_between least most) (Some d)) within) (same_Some _ _ is)
natural_cases least most None n within is = cc

data_cases : (tree : Members) (named : Field) (least most : ℕ) (n : ℕ) (o : Option Data) → in_field named tree ≡ o
    → passes (λ d. not (passes (is_between least most) (natural d))) o ≡ false → option_and_then natural o ≡ Some n → n ≤ most
data_cases tree named least most n (Some d) is within has = natural_cases least most (natural d) n within has
data_cases tree named least most n None is within has = cc

-- a number that the step has is in its range
pub at_most : (tree : Members) (named : Field) (least most : ℕ) (wanted : Need) → Sound tree (record { 0 = named; 1 = shape.Number least most; 2 = wanted })
    → (n : ℕ) → number_in named tree ≡ Some n → n ≤ most
at_most tree named least most wanted sound n has = data_cases tree named least most n (in_field named tree) refl sound.within has

-- ---- lists of offsets

list_cases : (o : Option (List Data)) → not (passes (list_all is_offset) o) ≡ false → list_all is_offset (or_none o) ≡ true
list_cases (Some ds) within = not_false (list_all is_offset ds) within
list_cases None within = refl

offsets_cases : (o : Option Data) → passes (λ d. not (is_array_of is_offset d)) o ≡ false → list_all is_offset (or_none (option_and_then members o)) ≡ true
offsets_cases (Some d) within = list_cases (members d) within
offsets_cases None within = refl

-- a list that the step has is one of offsets
pub offsets_there : (tree : Members) (named : Field) (wanted : Need) → Sound tree (record { 0 = named; 1 = shape.Offsets; 2 = wanted }) → list_all is_offset (members_in named tree) ≡ true
offsets_there tree named wanted sound = offsets_cases (in_field named tree) sound.within

-- ---- what becomes of events

third : (a b c : Bool) → (a || (b || c)) ≡ true → a ≡ false → b ≡ false → c ≡ true
third true b c some none also = cc
third false true c some none also = cc
third false false c some none also = some

text_cases : (o : Option (List ℕ)) → passes is_selection o ≡ true → passes (λ found. bytes_eq found (codes "leave")) o ≡ false → passes (λ found. bytes_eq found (codes "enable")) o ≡ false
    → passes (λ found. bytes_eq found (codes "disable")) o ≡ true
text_cases (Some text) is not_leave not_enable = third (bytes_eq text (codes "leave")) (bytes_eq text (codes "enable")) (bytes_eq text (codes "disable")) is not_leave not_enable
text_cases None is not_leave not_enable = cc

-- a step that neither leaves nor enables events disables them
pub disables : (tree : Members) → Sound tree (record { 0 = field.Select; 1 = shape.Select; 2 = need.Always }) → has_text field.Select (codes "leave") tree ≡ false
    → has_text field.Select (codes "enable") tree ≡ false → has_text field.Select (codes "disable") tree ≡ true
disables tree sound not_leave not_enable =
    let v = value_of tree (record { 0 = field.Select; 1 = shape.Select; 2 = need.Always }) (in_field field.Select tree) refl refl sound in
    rw v.found (text_cases (as_str v.value) v.within (rw v.found at not_leave) (rw v.found at not_enable))

-- ---- the bytes of the watchdog timer

-- ---- masks

or_true : (b : Bool) → (b || true) ≡ true
or_true true = refl
or_true false = refl

or_false : (b : Bool) → (b || false) ≡ b
or_false true = refl
or_false false = refl

pub and_true : (b : Bool) → (b && true) ≡ b
and_true true = refl
and_true false = refl

equal_test : (a b : ℕ) → a ≡ b → (a == b) ≡ true
equal_test a b same = grind (arith, nat_tests)

place_cases : (new old k p : ℕ) → bit_at new k ≡ 1 → ((i : ℕ) → i ≢ k → bit_at new i ≡ bit_at old i) → (b : Bool) → (k == p) ≡ b → has new p ≡ (has old p || b)
place_cases new old k p at elsewhere true is =
    let same : k ≡ p = grind (arith, nat_tests) in
    ap (λ (bit : ℕ). bit == 1) (ap (bit_at new) (sym same) ∙ at) ∙ sym (or_true (has old p))
place_cases new old k p at elsewhere false is =
    let other : p ≢ k = λ same. false≢true (sym is ∙ equal_test k p (sym same)) in
    ap (λ (bit : ℕ). bit == 1) (elsewhere p other) ∙ sym (or_false (has old p))

-- one more place in a mask
pub one_more : (new old k p : ℕ) → bit_at new k ≡ 1 → ((i : ℕ) → i ≢ k → bit_at new i ≡ bit_at old i) → has new p ≡ (has old p || (k == p))
one_more new old k p at elsewhere = place_cases new old k p at elsewhere (k == p) refl

-- a mask without places
pub has_none : (p : ℕ) → has 0 p ≡ false
has_none p = ap (λ (bit : ℕ). bit == 1) (bit_at-zero p)

less_or_at : (p k : ℕ) (f : ℕ → Bool) (below at beyond : Bool) → nat_lt p k ≡ below → (k == p) ≡ at → nat_lt p (k + 1) ≡ beyond → ((below && f p) || (at && f k)) ≡ (beyond && f p)
less_or_at p k f true at true is at_is beyond_is = or_here (f p) (at && f k) (at_cases p k f at at_is)
  where
    or_here : (a b : Bool) → (b ≡ true → a ≡ true) → (a || b) ≡ a
    or_here true b up = refl
    or_here false true up = sym (up refl)
    or_here false false up = refl

    at_cases : (p k : ℕ) (f : ℕ → Bool) (at : Bool) → (k == p) ≡ at → (at && f k) ≡ true → f p ≡ true
    at_cases p k f true is holds = let same : p ≡ k = grind (arith, nat_tests) in ap f same ∙ holds
    at_cases p k f false is holds = cc
less_or_at p k f true at false is at_is beyond_is = absurd (grind (arith, nat_tests))
less_or_at p k f false true true is at_is beyond_is = let same : p ≡ k = grind (arith, nat_tests) in ap f (sym same)
less_or_at p k f false true false is at_is beyond_is = absurd (grind (arith, nat_tests))
less_or_at p k f false false true is at_is beyond_is = absurd (grind (arith, nat_tests))
less_or_at p k f false false false is at_is beyond_is = refl

-- the places below a place, and it
pub below_more : (p k : ℕ) (f : ℕ → Bool) → ((nat_lt p k && f p) || ((k == p) && f k)) ≡ (nat_lt p (k + 1) && f p)
below_more p k f = less_or_at p k f (nat_lt p k) (k == p) (nat_lt p (k + 1)) refl refl refl

none_cases : (p : ℕ) (b f : Bool) → nat_lt p 0 ≡ b → (b && f) ≡ false
none_cases p true f is = absurd (grind (arith, nat_tests))
none_cases p false f is = refl

-- no place is below the first
pub none_below : (p : ℕ) (f : ℕ → Bool) → (nat_lt p 0 && f p) ≡ false
none_below p f = none_cases p (nat_lt p 0) (f p) refl

and_none : (b : Bool) → (b && false) ≡ false
and_none true = refl
and_none false = refl

-- there are six thresholds
pub six_given : (tree : Members) (place : ℕ) → (nat_lt place 6 && is_given tree place) ≡ is_given tree place
six_given tree zero = refl
six_given tree (suc zero) = refl
six_given tree (suc (suc zero)) = refl
six_given tree (suc (suc (suc zero))) = refl
six_given tree (suc (suc (suc (suc zero)))) = refl
six_given tree (suc (suc (suc (suc (suc zero))))) = refl
six_given tree (suc (suc (suc (suc (suc (suc place)))))) = and_none (nat_lt (suc (suc (suc (suc (suc (suc place)))))) 6)

pub offset_small : (d : Data) (n : ℕ) → is_offset d ≡ true → natural d ≡ Some n → n ≤ 11
offset_small d n is has =
    let within : passes (is_between 0 11) (Some n) ≡ true = rw has at is in
    most_cases 0 11 n n within refl
