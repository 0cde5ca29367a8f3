-- Keys that are added one after another.
use Rattle.std.specs.Prelude.{get_or, map}
use Rattle.std.specs.List.{flat_map, range_with_len}
use Rattle.std.proofs.Common.{◌≡◌, ◌∙◌, ◌⊎◌, inl, inr, ◌+◌, ◌-◌, ◌<◌, ◌≤◌, ◌++◌, ℕ, zero, suc, List, [], ◌∷◌, length, take, sym, ap, arith}
use Rattle.std.proofs.lemmas.List.{flat_map_more, map-append, take_more}
use Rattle.std.proofs.lemmas.Bool.{cases_lt}
use Rattle.record_base.specs.declared.key.Key.{Key}

-- one number more
numbers_more : (first count number : ℕ) → first + count ≡ number → range_with_len first (suc count) ≡ range_with_len first count ++ number ∷ []
numbers_more first zero number is = ap (λ (n : ℕ). n ∷ []) (omega (arith, is))
numbers_more first (suc count) number is = ap (λ (later : List ℕ). first ∷ later) (numbers_more (first + 1) count number (omega (arith, is)))

-- those of one number more
pub keys_more : (of : ℕ → List Key) (start items new : List Key) (first count number : ℕ) → items ≡ start ++ flat_map of (range_with_len first count) → new ≡ items ++ of number
    → first + count ≡ number → new ≡ start ++ flat_map of (range_with_len first (suc count))
keys_more of start items new first count number are grown at =
    grown ∙ ap (λ (l : List Key). l ++ of number) are ∙ flat_map_more of start (range_with_len first count) number
    ∙ ap (λ (l : List ℕ). start ++ flat_map of l) (sym (numbers_more first count number at))

-- the one of one number more
pub key_more : (of : ℕ → Key) (items new : List Key) (first count number : ℕ) → items ≡ map of (range_with_len first count) → new ≡ items ++ of number ∷ [] → first + count ≡ number
    → new ≡ map of (range_with_len first (suc count))
key_more of items new first count number are grown at =
    grown ∙ ap (λ (l : List Key). l ++ of number ∷ []) are ∙ sym (map-append of (range_with_len first count) (number ∷ []))
    ∙ ap (map of) (sym (numbers_more first count number at))

-- those of one value more of a list
pub keys_to : {T : Type 0} (of : T → List Key) (start items new : List Key) (all : List T) (place : ℕ) (other : T) → place < length all → items ≡ start ++ flat_map of (take place all)
    → new ≡ items ++ of (get_or all place other) → new ≡ start ++ flat_map of (take (place + 1) all)
keys_to {T} of start items new all place other less are grown =
    grown ∙ ap (λ (l : List Key). l ++ of (get_or all place other)) are ∙ flat_map_more of start (take place all) (get_or all place other)
    ∙ ap (λ (l : List T). start ++ flat_map of l) (sym (take_more all place other less))

-- behind the last id of a range no id is left
pub none_left : (first last id : ℕ) → first ≤ id → last < id → (first ≤ last → id ≤ last) → (last < first → id ≡ first) → id - first ≡ suc last - first
none_left first last id begun past ends few = by (cases_lt last first) where
  by : (last < first) ⊎ (first ≤ last) → id - first ≡ suc last - first
  by (inl less) = omega (arith, less, few less)
  by (inr some) = absurd (omega (arith, past, ends some))

-- those that go by numbers, in three parts
pub three_parts : (none first second third own sensors channels : List Key) → none ≡ [] → first ≡ none ++ own → second ≡ first ++ sensors → third ≡ second ++ channels
    → third ≡ own ++ sensors ++ channels
three_parts none first second third own sensors channels empty is_first is_second is_third =
    is_third ∙ ap (λ (l : List Key). l ++ channels) (is_second ∙ ap (λ (l : List Key). l ++ sensors) (is_first ∙ ap (λ (l : List Key). l ++ own) empty))
