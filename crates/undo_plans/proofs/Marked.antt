-- Lists of which the first so many count.
use Rattle.std.specs.Prelude.{map, slice_get}
use Rattle.std.proofs.Common.{◌≡◌, ◌≤◌, ℕ, zero, suc, List, [], ◌∷◌, ◌+◌, ◌++◌, length, take, reverse, inl, inr, Some, None, refl, sym, ◌∙◌, ap, subst, arith}
use Rattle.std.specs.Option.{option_to_list, option_map}
use Rattle.std.proofs.lemmas.List.{length-map, length-reverse, length-take-le, take_all, take-append-le, map-append, reverse-append, take-map}
use Rattle.std.proofs.lemmas.Option.{slice_get_past, slice_get_cases, slice_get-map}

-- what doesn't count yet is the last
last_one : {A : Type 0} (xs : List A) (n : ℕ) → n ≤ length xs → length xs ≤ n + 1 → xs ≡ take n xs ++ option_to_list (slice_get xs n)
last_one [] zero there one = refl
last_one [] (suc n) there one = absurd (omega (arith, there))
last_one (x ∷ []) zero there one = refl
last_one (x ∷ y ∷ xs) zero there one = absurd (omega (arith, one))
last_one (x ∷ xs) (suc n) there one = ap (λ ys. x ∷ ys) (last_one xs n (omega (arith, there)) (omega (arith, one)))

-- so it counts once all count
pub all_count : {A B : Type 0} (f : A → B) (xs : List A) (n k : ℕ) → n ≤ length xs → length xs ≤ n + 1 → k ≡ length xs
    → map f (take k xs) ≡ map f (take n xs) ++ option_to_list (slice_get (map f xs) n)
all_count f xs n k there one all =
    ap (map f) (take_all k xs (omega (arith, all)))
    ∙ last_one (map f xs) n (omega (arith, there, length-map xs f)) (omega (arith, one, length-map xs f))
    ∙ ap (λ ys. ys ++ option_to_list (slice_get (map f xs) n)) (take-map f n xs)

-- and none is left
pub none_waits : {A B : Type 0} (f : A → B) (xs : List A) (n : ℕ) → length xs ≤ n → slice_get (map f xs) n ≡ None
none_waits f xs n past = slice_get_past (map f xs) n (omega (arith, past, length-map xs f))

-- none waits where all count
pub all_counted : {A B : Type 0} (f : A → B) (xs : List A) (n : ℕ) → n ≤ length xs → slice_get (map f xs) n ≡ None → n ≡ length xs
all_counted f xs n there none = elim (slice_get_cases (map f xs) n).1 [
  | inl within ↦ let both : None ≡ Some within.0 = sym none ∙ within.2 in cc both
  | inr past ↦ omega (arith, there, past.0, length-map xs f)
]

-- those that count stay while one is put behind them
pub still_counted : {A : Type 0} (xs : List A) (n : ℕ) (x : A) → n ≤ length xs → take n (take n xs ++ x ∷ []) ≡ take n xs
still_counted xs n x there =
    let short = length-take-le n xs there in
    take-append-le n (take n xs) (x ∷ []) (omega (arith, short)) ∙ take_all n (take n xs) (omega (arith, short))

-- which waits
slice_get_last : {A : Type 0} (xs : List A) (x : A) → slice_get (xs ++ x ∷ []) (length xs) ≡ Some x
slice_get_last [] x = refl
slice_get_last (y ∷ ys) x = slice_get_last ys x

pub waits : {A B : Type 0} (f : A → B) (xs : List A) (n : ℕ) (x : A) → n ≤ length xs → slice_get (map f (take n xs ++ x ∷ [])) n ≡ Some (f x)
waits f xs n x there =
    slice_get-map f (take n xs ++ x ∷ []) n
    ∙ ap (option_map f) (subst (λ k. slice_get (take n xs ++ x ∷ []) k ≡ Some x) (length-take-le n xs there) (slice_get_last (take n xs) x))

-- the other way round
map_reverse : {A B : Type 0} (f : A → B) (xs : List A) → map f (reverse xs) ≡ reverse (map f xs)
map_reverse f [] = refl
map_reverse f (x ∷ xs) =
    ap (map f) (reverse-append (x ∷ []) xs) ∙ map-append f (reverse xs) (x ∷ []) ∙ ap (λ ys. ys ++ f x ∷ []) (map_reverse f xs) ∙ sym (reverse-append (f x ∷ []) (map f xs))

pub turned : {A B : Type 0} (f : A → B) (xs ys : List A) (n : ℕ) → n ≡ length xs → ys ≡ reverse xs → map f (take n ys) ≡ reverse (map f (take n xs))
turned f xs ys n all is =
    let longs : n ≡ length ys = all ∙ sym (length-reverse xs) ∙ ap length (sym is) in
    ap (map f) (take_all n ys (omega (arith, longs)) ∙ is) ∙ map_reverse f xs ∙ ap (λ zs. reverse (map f zs)) (sym (take_all n xs (omega (arith, all))))

-- a list as long as was written is what was written
pub whole : {A : Type 0} (n : ℕ) (xs ys back : List A) → n ≡ length xs → ys ≡ reverse xs → take n (ys ++ back) ≡ reverse xs
whole n xs ys back long is =
    let same : length ys ≡ length xs = ap length is ∙ length-reverse xs in
    take-append-le n ys back (omega (arith, long, same)) ∙ take_all n ys (omega (arith, long, same)) ∙ is
