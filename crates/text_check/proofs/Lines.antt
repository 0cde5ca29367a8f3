-- Tests of lines, by what they say.
use Rattle.std.proofs.Common.{◌≡◌, ◌||◌, cond, Bool, true, false, List, [], ◌∷◌, Some, map, option_map, refl, ap}
use Rattle.std.specs.List.{find, list_any}

pub any_of_map : {A B : Type 0} (shows : A → B) (test : B → Bool) (items : List A) → list_any (λ item. test (shows item)) items ≡ list_any test (map shows items)
any_of_map shows test [] = refl
any_of_map shows test (item ∷ items) = ap (λ more. test (shows item) || more) (any_of_map shows test items)

pub find_of_map : {A B : Type 0} (shows : A → B) (test : B → Bool) (items : List A) → option_map shows (find (λ item. test (shows item)) items) ≡ find test (map shows items)
find_of_map shows test [] = refl
find_of_map {A} {B} shows test (item ∷ items) = go (test (shows item)) (find_of_map shows test items)
  where
    go : (b : Bool) → option_map shows (find (λ item. test (shows item)) items) ≡ find test (map shows items)
        → option_map shows (cond b (Some item) (find (λ item. test (shows item)) items)) ≡ cond b (Some (shows item)) (find test (map shows items))
    go true more = refl
    go false more = more
