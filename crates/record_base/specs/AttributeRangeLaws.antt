-- The laws of the values that a BIOS attribute can have.
use Rattle.std.proofs.Common.{◌≡◌, ◌≢◌, ℕ, zero, suc, ◌+◌, ◌*◌, ◌/◌, ◌%◌, ◌≤◌, List, [], ◌∷◌, length, Bool, true, false, ◌&&◌, ◌||◌, ◌==◌, nat_le, if◌then◌else◌, Some, None, refl, ap, subst, arith}
use Rattle.std.specs.Option.{IsSomeAnd}
use Rattle.std.proofs.Props.{props}
use Rattle.std.proofs.lemmas.Bool.Decides.{nat_tests}
use Rattle.std.proofs.lemmas.Nat.{from_le_bytes-to_le_bytes_8}
use Rattle.record_base.specs.MaskLaws.{both_true, both}
use Rattle.record_base.specs.InverseLaws.{tested_same, same_tested}
use Rattle.record_base.specs.declared.attribute_range.AttributeRange.{AttributeRange}
use Rattle.record_base.specs.declared.attribute_range.AttributeRange.TheVariants as range
use Rattle.record_base.specs.declared.attribute_range.IntegerSteps.{IntegerSteps}
use Rattle.record_base.specs.declared.attribute_range.TextLengths.{TextLengths}
use Rattle.record_base.specs.declared.attribute_range.PossibleValues.{PossibleValues}
use Rattle.record_base.specs.declared.attribute_value.AttributeValue.{AttributeValue}
use Rattle.record_base.specs.declared.attribute_value.AttributeValue.TheVariants.{Indexes, Text, Number}
use Rattle.record_base.specs.AttributeSizes.{most_indexes, least_value, most_value}
use Rattle.record_base.specs.AttributeValue.{number_of, type_of_value, value_bytes, value_in, HasEightBytes}
use Rattle.record_base.specs.AttributeRange.{AllowsIndexes, AllowsText, AllowsNumber, AllowsValue, allows, IsValue}

-- ---- tests say what they are named for

pub le_true : (a b : ℕ) → a ≤ b → nat_le a b ≡ true
le_true a b h = grind (arith, nat_tests)

pub true_le : (a b : ℕ) → nat_le a b ≡ true → a ≤ b
true_le a b h = grind (arith, nat_tests)

true_stepped : (increment rest : ℕ) → (increment == 0 || rest == 0) ≡ true → increment ≢ 0 → rest ≡ 0
true_stepped increment rest h some = grind (arith, nat_tests)

stepped_true : (increment rest : ℕ) → (increment ≢ 0 → rest ≡ 0) → (increment == 0 || rest == 0) ≡ true
stepped_true zero rest h = refl
stepped_true (suc increment) rest h = let none : rest ≡ 0 = h (λ same. omega arith) in grind (arith, nat_tests)

pub true_allows : (r : AttributeRange) (v : AttributeValue) → allows r v ≡ true → AllowsValue r v
true_allows (range.Enumeration possible) (Indexes indexes) h =
    let tests = both_true _ _ h in
    let more = both_true _ _ tests.1 in
    record { some = true_le _ _ tests.0; few = true_le _ _ more.0; known = more.1 }
true_allows (range.Text lengths) (Text text) h =
    let tests = both_true _ _ h in record { enough = true_le _ _ tests.0; few = true_le _ _ tests.1 }
true_allows (range.Integer steps) (Number n) h =
    let tests = both_true _ _ h in
    let more = both_true _ _ tests.1 in
    record { above = true_le _ _ tests.0; below = true_le _ _ more.0; stepped = true_stepped _ _ more.1 }
true_allows (range.Enumeration possible) (Text text) h = absurd cc
true_allows (range.Enumeration possible) (Number n) h = absurd cc
true_allows (range.Text lengths) (Indexes indexes) h = absurd cc
true_allows (range.Text lengths) (Number n) h = absurd cc
true_allows (range.Integer steps) (Indexes indexes) h = absurd cc
true_allows (range.Integer steps) (Text text) h = absurd cc

pub allows_true : (r : AttributeRange) (v : AttributeValue) → AllowsValue r v → allows r v ≡ true
allows_true (range.Enumeration possible) (Indexes indexes) is = both _ _ (le_true _ _ is.some) (both _ _ (le_true _ _ is.few) is.known)
allows_true (range.Text lengths) (Text text) is = both _ _ (le_true _ _ is.enough) (le_true _ _ is.few)
allows_true (range.Integer steps) (Number n) is = both _ _ (le_true _ _ is.above) (both _ _ (le_true _ _ is.below) (stepped_true _ _ is.stepped))
allows_true (range.Enumeration possible) (Text text) is = absurd is
allows_true (range.Enumeration possible) (Number n) is = absurd is
allows_true (range.Text lengths) (Indexes indexes) is = absurd is
allows_true (range.Text lengths) (Number n) is = absurd is
allows_true (range.Integer steps) (Indexes indexes) is = absurd is
allows_true (range.Integer steps) (Text text) is = absurd is

-- ---- at most one proof says that an attribute can have a value

pub AllowsIndexes-prop : (count : ℕ) (indexes : List ℕ) → IsProp (AllowsIndexes count indexes)
AllowsIndexes-prop count indexes = hlevel props

pub AllowsText-prop : (lengths : TextLengths) (text : List ℕ) → IsProp (AllowsText lengths text)
AllowsText-prop lengths text = hlevel props

pub AllowsNumber-prop : (steps : IntegerSteps) (n : ℕ) → IsProp (AllowsNumber steps n)
AllowsNumber-prop steps n = hlevel props

pub Allows-prop : (r : AttributeRange) (v : AttributeValue) → IsProp (AllowsValue r v)
Allows-prop (range.Enumeration possible) (Indexes indexes) = hlevel props
Allows-prop (range.Text lengths) (Text text) = hlevel props
Allows-prop (range.Integer steps) (Number n) = hlevel props
Allows-prop (range.Enumeration possible) (Text text) = hlevel props
Allows-prop (range.Enumeration possible) (Number n) = hlevel props
Allows-prop (range.Text lengths) (Indexes indexes) = hlevel props
Allows-prop (range.Text lengths) (Number n) = hlevel props
Allows-prop (range.Integer steps) (Indexes indexes) = hlevel props
Allows-prop (range.Integer steps) (Text text) = hlevel props

-- ---- possible values of the same number are the same

few_prop : (m : ℕ) → IsProp (m ≤ most_indexes)
few_prop m = hlevel props

abbrev possible_of : (m : ℕ) → m ≤ most_indexes → PossibleValues
possible_of m few = record { count = m; few = few }

pub same_possible : (m n : ℕ) (p : m ≤ most_indexes) (q : n ≤ most_indexes) → m ≡ n → possible_of m p ≡ possible_of n q
same_possible m n p q same = subst (λ (k : ℕ). (r : k ≤ most_indexes) → possible_of m p ≡ possible_of k r) same (λ r i. possible_of m (few_prop m p r i)) q

-- ---- lengths

-- where an option with a property exists by a test, the test holds
comes : {X : Type 0} (b : Bool) (x : X) (P : X → Type 0) → IsSomeAnd (if b then Some x else None) P → (b ≡ true) × P x
comes true x P h = (refl, h)
comes false x P h = absurd h

-- a value has the least number of bytes or more, and no more than the most
pub record IsLength (size : ℕ) : Type 0 where
  pub least : least_value ≤ size
  pub most : size ≤ most_value

pub value_length : (r : AttributeRange) (bytes : List ℕ) → IsValue r bytes → IsLength (length bytes)
value_length (range.Enumeration possible) [] is = absurd is
value_length (range.Enumeration possible) (count ∷ indexes) is =
    let here = comes (count == length indexes) (Indexes indexes) (AllowsValue (range.Enumeration possible)) is in
    record { least = omega (arith, here.1.some); most = omega (arith, here.1.few, possible.few) }
value_length (range.Text lengths) [] is = absurd is
value_length (range.Text lengths) (low ∷ []) is = absurd is
value_length (range.Text lengths) (low ∷ high ∷ text) is =
    let here = comes _ (Text text) (AllowsValue (range.Text lengths)) is in
    record { least = omega arith; most = omega (arith, here.1.few, lengths.few) }
value_length (range.Integer steps) bytes is =
    let here = comes (length bytes == 8) _ (AllowsValue (range.Integer steps)) is in
    let eight : length bytes ≡ 8 = tested_same _ _ here.0 in
    record { least = omega (arith, eight); most = omega (arith, eight) }

pub length_tested : (n : ℕ) → IsLength n → (nat_le least_value n && nat_le n most_value) ≡ true
length_tested n is = both _ _ (le_true _ _ is.least) (le_true _ _ is.most)

-- ---- a value's bytes read as the value

-- a number is read back from its two bytes
pub number_back : (n : ℕ) → n % 256 + 256 * (n / 256) ≡ n
number_back n = omega arith

comes_where : {X : Type 0} (b : Bool) (x : X) → b ≡ true → (if b then Some x else None) ≡ Some x
comes_where true x h = refl
comes_where false x h = absurd cc

pub value_back : (v : AttributeValue) → HasEightBytes v → value_in (type_of_value v) (value_bytes v) ≡ Some v
value_back (Indexes indexes) small = comes_where (length indexes == length indexes) (Indexes indexes) (same_tested _ _ refl)
value_back (Text text) small = comes_where (number_of (length text % 256) (length text / 256) == length text) (Text text) (same_tested _ _ (number_back (length text)))
value_back (Number n) small = ap (λ (m : ℕ). Some (Number m)) (from_le_bytes-to_le_bytes_8 n small)
