-- Items that have names of their own.
use Rattle.std.proofs.Common.{◌≡◌, ◌≢◌, ℕ, ◌-◌, ◌<◌, ◌≤◌, ◌⊎◌, inl, inr, List, [], ◌∷◌, ◌++◌, length, get_or, take, map, ap, sym, ◌∙◌, arith, get_or-take, length-append}
use Rattle.std.specs.List.{Any}
use Rattle.std.proofs.lemmas.List.{length-take, length-map, get_or-map, get_or_append_left, get_or_default}
use Rattle.std.proofs.Math.Seq.{get_or-append_right}
use Rattle.std.proofs.lemmas.List.Quantifiers.{all_pairs_push}
use Rattle.record_base.specs.Distinct.{NamesDiffer}

-- names that differ go on to differ with an item of a new name
pub NamesDiffer-push : {X N : Type 0} (name : X → N) (items : List X) (item : X) → NamesDiffer name items → ((k : ℕ) (d : X) → k < length items → name (get_or items k d) ≢ name item) → NamesDiffer name (items ++ item ∷ [])
NamesDiffer-push name items item differ new = all_pairs_push (λ a b. name a ≢ name b) items item differ new

-- an item with the name of none before it
pub NamesDiffer-more : {X N : Type 0} (name : X → N) (items : List X) (item : X) → NamesDiffer name items → ¬ Any (λ x. name x ≡ name item) items → NamesDiffer name (items ++ item ∷ [])
NamesDiffer-more name items item differ new = NamesDiffer-push name items item differ (λ k d lt same. new (k, get_or items k d, lt, get_or_default items k (get_or items k d) d lt, same))

-- an item with the name of one before it
pub NamesDiffer-twice : {X N : Type 0} (name : X → N) (items : List X) (i : ℕ) (item : X) → i < length items → item ≡ get_or items i item → Any (λ x. name x ≡ name item) (take i items) → ¬ NamesDiffer name items
NamesDiffer-twice name items i item inside is earlier differ =
    let k : ℕ = earlier.0 in
    let before : k < i = omega (arith, earlier.2, length-take i items) in
    let at : get_or items k earlier.1 ≡ earlier.1 = sym (get_or-take i items k earlier.1 before) ∙ earlier.3 in
    differ k i earlier.1 before inside (ap name at ∙ earlier.4 ∙ ap name (is ∙ get_or_default items i item earlier.1 inside))

-- names of what is made of items
pub NamesDiffer-map : {X Y N : Type 0} (name : Y → N) (f : X → Y) (items : List X) → NamesDiffer (λ x. name (f x)) items → NamesDiffer name (map f items)
NamesDiffer-map name f [] differ = λ i j d lt inside same. absurd (omega arith)
NamesDiffer-map name f (x ∷ xs) differ = λ i j d lt inside same.
    let n : length (map f (x ∷ xs)) ≡ length (x ∷ xs) = length-map (x ∷ xs) f in
    differ i j x lt (omega arith) (ap name (sym (get_or-map f (x ∷ xs) i x d (omega arith))) ∙ same ∙ ap name (get_or-map f (x ∷ xs) j x d (omega arith)))

at_or_after : (i n : ℕ) → (i < n) ⊎ (n ≤ i)
at_or_after i n = grind arith

append_differ : {X N : Type 0} (name : X → N) (xs ys : List X) (i j : ℕ) (d : X) → i < j → j < length (xs ++ ys) → (i < length xs) ⊎ (length xs ≤ i) → (j < length xs) ⊎ (length xs ≤ j)
    → NamesDiffer name xs → NamesDiffer name ys → ((m n : ℕ) → m < length xs → n < length ys → name (get_or xs m d) ≢ name (get_or ys n d)) → name (get_or (xs ++ ys) i d) ≢ name (get_or (xs ++ ys) j d)
append_differ name xs ys i j d lt inside (inl p) (inl q) differ also apart =
    λ same. differ i j d lt q (ap name (sym (get_or_append_left xs ys d i p)) ∙ same ∙ ap name (get_or_append_left xs ys d j q))
append_differ name xs ys i j d lt inside (inl p) (inr q) differ also apart =
    λ same. apart i (j - length xs) p (omega (arith, length-append xs ys)) (ap name (sym (get_or_append_left xs ys d i p)) ∙ same ∙ ap name (get_or-append_right xs ys j d q))
append_differ name xs ys i j d lt inside (inr p) (inl q) differ also apart = absurd (omega arith)
append_differ name xs ys i j d lt inside (inr p) (inr q) differ also apart =
    λ same. also (i - length xs) (j - length xs) d (omega arith) (omega (arith, length-append xs ys)) (ap name (sym (get_or-append_right xs ys i d p)) ∙ same ∙ ap name (get_or-append_right xs ys j d q))

-- names in two lists, of which none is in both
pub NamesDiffer-append : {X N : Type 0} (name : X → N) (xs ys : List X) → NamesDiffer name xs → NamesDiffer name ys
    → ((m n : ℕ) (d : X) → m < length xs → n < length ys → name (get_or xs m d) ≢ name (get_or ys n d)) → NamesDiffer name (xs ++ ys)
NamesDiffer-append name xs ys differ also apart = λ i j d lt inside.
    append_differ name xs ys i j d lt inside (at_or_after i (length xs)) (at_or_after j (length xs)) differ also (λ m n. apart m n d)
