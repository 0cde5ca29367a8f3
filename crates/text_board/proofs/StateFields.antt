-- The state effecters of a file, and what an item with states has in its fields.
use Rattle.std.proofs.Common.{◌≡◌, ℕ, ◌==◌, zero, suc, ◌<◌, ◌≤◌, nat_le, length, get_or, map, List, [], ◌∷◌, Bool, true, false, ◌||◌, Option, Some, None, refl, sym, ap, ◌∙◌, arith}
use Rattle.std.proofs.lemmas.Bool.{and_parts}
use Rattle.std.proofs.lemmas.Bool.Decides.{nat_tests}
use Rattle.std.specs.List.{list_all, AllZip}
use Rattle.toml.specs.Data.{Data}
use Rattle.toml.specs.View.{view}
use Rattle.toml.specs.declared.value.Value.{Value}
use Rattle.record_base.specs.AttributeRangeLaws.{true_le}
use Rattle.record_base.specs.BoardSizes.{most_state_fields}
use Rattle.record_base.specs.StateField.{allows}
use Rattle.text_fields.specs.Trees.{IsNaturalIn, natural, members, or_none}
use Rattle.text_fields.specs.Ranges.{passes, is_between, is_number, is_listed, is_state, is_state_list, are_state_lists, can_be, are_present}
use Rattle.text_board.specs.Holds.{operational}

-- ---- states

either_true : (a b c : Bool) → (a ≡ true → c ≡ true) → (b ≡ true → c ≡ true) → (a || b) ≡ true → c ≡ true
either_true true b c f g h = f refl
either_true false b c f g h = g h

same_number : (m n : ℕ) → (m == n) ≡ true → m ≡ n
same_number m n is = grind (arith, nat_tests)

number_small : (o : Option ℕ) (n : ℕ) → passes (is_between 0 255) o ≡ true → passes (λ m. m == n) o ≡ true → is_between 0 255 n ≡ true
number_small (Some m) n small same = rw (← same_number m n same) small
number_small None n small same = cc

-- a number that is listed among states is a state
listed_small : (ds : List Data) (n : ℕ) → list_all is_state ds ≡ true → is_listed ds n ≡ true → is_between 0 255 n ≡ true
listed_small [] n all some = cc
listed_small (d ∷ ds) n all some =
    let (here, more) = and_parts (is_state d) (list_all is_state ds) all in
    either_true (is_number n d) (is_listed ds n) (is_between 0 255 n) (λ same. number_small (natural d) n here same) (λ behind. listed_small ds n more behind) some

present_cases : (states d : Data) (o : Option ℕ) → natural d ≡ o → is_state_list states ≡ true → passes (is_listed (or_none (members states))) o ≡ true → is_state d ≡ true
present_cases states d (Some n) is list some = rw is (listed_small (or_none (members states)) n list some)
present_cases states d None is list some = cc

-- what a field can be in is a state
pub present_small : (states d : Data) → is_state_list states ≡ true → can_be states d ≡ true → is_state d ≡ true
present_small states d list can = present_cases states d (natural d) refl list can

listed_as : (ds : List Data) (states : List ℕ) (n : ℕ) → AllZip IsNaturalIn ds states → is_listed ds n ≡ allows states n
listed_as [] [] n zip = refl
listed_as [] (s ∷ states) n zip = absurd zip
listed_as (d ∷ ds) [] n zip = absurd zip
listed_as (d ∷ ds) (s ∷ states) n zip = rw zip.0 (ap (λ b. (s == n) || b) (listed_as ds states n zip.1))

-- a field can be in the state
pub present_allowed : (states d : Data) (allowed : List ℕ) (n : ℕ) → can_be states d ≡ true → natural d ≡ Some n → AllZip IsNaturalIn (or_none (members states)) allowed → allows allowed n ≡ true
present_allowed states d allowed n can is zip =
    let listed : is_listed (or_none (members states)) n ≡ true = rw is at can in
    sym (listed_as (or_none (members states)) allowed n zip) ∙ listed

-- the field at a place can be in the state there
pub present_at : (lists states : List Value) (i : ℕ) (list state : Value) → are_present (map view lists) (map view states) ≡ true → i < length lists → i < length states → list ≡ get_or lists i list → state ≡ get_or states i state
    → can_be (view list) (view state) ≡ true
present_at [] states i list state all within inside is also = absurd (omega arith)
present_at (l ∷ lists) [] i list state all within inside is also = absurd (omega arith)
present_at (l ∷ lists) (s ∷ states) zero list state all within inside is also =
    let here : can_be (view l) (view s) ≡ true = (and_parts (can_be (view l) (view s)) (are_present (map view lists) (map view states)) all).0 in
    let same : list ≡ l = is in
    let other : state ≡ s = also in
    rw (same, other) here
present_at (l ∷ lists) (s ∷ states) (suc i) list state all within inside is also =
    present_at lists states i list state (and_parts (can_be (view l) (view s)) (are_present (map view lists) (map view states)) all).1 (omega arith) (omega arith) is also

-- a list of states for each of one field or more
pub lists_are : (ds : List Data) → are_state_lists ds ≡ true → (1 ≤ length ds) × ((length ds ≤ most_state_fields) × (list_all is_state_list ds ≡ true))
lists_are ds are =
    let (some, all) = and_parts (is_between 1 most_state_fields (length ds)) (list_all is_state_list ds) are in
    let (low, high) = and_parts (nat_le 1 (length ds)) (nat_le (length ds) most_state_fields) some in
    (true_le 1 (length ds) low, (true_le (length ds) most_state_fields high, all))

-- a state from 1 to 2 is the one that it says
pub state_told : (n : ℕ) → 1 ≤ n → n ≤ 2 → operational (n == 1) ≡ n
state_told zero least most = absurd (omega arith)
state_told (suc zero) least most = refl
state_told (suc (suc zero)) least most = refl
state_told (suc (suc (suc n))) least most = absurd (omega arith)
