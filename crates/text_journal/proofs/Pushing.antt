-- Lines of a list that are written one behind another.
use Rattle.std.proofs.Common.{◌≡◌, ◌≤◌, ◌+◌, ℕ, zero, suc, List, [], ◌∷◌, ◌++◌, length, map, take, refl, sym, ◌∙◌, ap, subst, append_assoc, Option, Some, slice_get, add-one}
use Rattle.std.specs.List.{AllByRecursion, flat_map}
use Rattle.std.proofs.lemmas.Grind.{flat_map-append}
use Rattle.std.proofs.lemmas.List.{map-append, take_all}
use Rattle.text_lines.specs.Cuts.{ended}

nil_behind : {T : Type 0} (xs : List T) → xs ++ [] ≡ xs
nil_behind [] = refl
nil_behind {T} (x ∷ xs) = ap (λ (l : List T). x ∷ l) (nil_behind xs)

all_more : {T : Type 0} (Is : T → Type 0) (xs : List T) (x : T) → AllByRecursion Is xs → Is x → AllByRecursion Is (xs ++ x ∷ [])
all_more Is [] x all is = (is, tt)
all_more Is (y ∷ ys) x all is = (all.0, all_more Is ys x all.1 is)

take_suc : {T : Type 0} (xs : List T) (place : ℕ) (x : T) → slice_get xs place ≡ Some x → take (suc place) xs ≡ take place xs ++ x ∷ []
take_suc [] place x got = cc got
take_suc {T} (y ∷ ys) zero x got = same_head got
  where
    same_head : {a b : T} → (let it : Option T = Some a in it) ≡ Some b → (let l : List T = a ∷ [] in l) ≡ b ∷ []
    same_head e = cc e
take_suc {T} (y ∷ ys) (suc place) x got = ap (λ (l : List T). y ∷ l) (take_suc ys place x got)

take_next : {T : Type 0} (xs : List T) (place : ℕ) (x : T) → slice_get xs place ≡ Some x → take (place + 1) xs ≡ take place xs ++ x ∷ []
take_next {T} xs place x got = ap (λ (n : ℕ). take n xs) (add-one place) ∙ take_suc xs place x got

-- the lines of the first so many of a list are written, and each is its line
pub record Pushed {T : Type 0} (line : T → List ℕ) (Is : T → Type 0) (xs : List T) (place : ℕ) (old new : List ℕ) : Type 0 where
  pub text : new ≡ old ++ flat_map ended (map line (take place xs))
  pub each : AllByRecursion Is (take place xs)

pub pushed_none : {T : Type 0} (line : T → List ℕ) (Is : T → Type 0) (xs : List T) (text : List ℕ) → Pushed line Is xs 0 text text
pushed_none line Is [] text = record { text = sym (nil_behind text); each = tt }
pushed_none line Is (x ∷ xs) text = record { text = sym (nil_behind text); each = tt }

pub pushed_more : {T : Type 0} (line : T → List ℕ) (Is : T → Type 0) (xs : List T) (place : ℕ) (x : T) (old now new : List ℕ) → slice_get xs place ≡ Some x → Pushed line Is xs place old now → new ≡ now ++ ended (line x) → Is x
    → Pushed line Is xs (place + 1) old new
pushed_more {T} line Is xs place x old now new got b text is =
    let more = take_next xs place x got in
    let done = take place xs in
    let flat : flat_map ended (map line (done ++ x ∷ [])) ≡ flat_map ended (map line done) ++ ended (line x) =
    ap (flat_map ended) (map-append line done (x ∷ [])) ∙ flat_map-append ended (map line done) (line x ∷ []) ∙ ap (λ (l : List ℕ). flat_map ended (map line done) ++ l) (nil_behind (ended (line x))) in
    record {
      text = text ∙ ap (λ (l : List ℕ). l ++ ended (line x)) b.text ∙ append_assoc old (flat_map ended (map line done)) (ended (line x)) ∙ ap (λ (l : List ℕ). old ++ l) (sym flat)
          ∙ ap (λ (l : List T). old ++ flat_map ended (map line l)) (sym more);
      each = subst (AllByRecursion Is) (sym more) (all_more Is done x b.each is);
    }

-- all of them are, behind what stands in front
pub pushed_all : {T : Type 0} (line : T → List ℕ) (Is : T → Type 0) (xs : List T) (place : ℕ) (old first new : List ℕ) → length xs ≤ place → Pushed line Is xs place (old ++ first) new → new ≡ old ++ (first ++ flat_map ended (map line xs))
pushed_all {T} line Is xs place old first new end b =
    b.text ∙ ap (λ (l : List T). (old ++ first) ++ flat_map ended (map line l)) (take_all place xs end) ∙ append_assoc old first (flat_map ended (map line xs))

pub each_is : {T : Type 0} (line : T → List ℕ) (Is : T → Type 0) (xs : List T) (place : ℕ) (old new : List ℕ) → length xs ≤ place → Pushed line Is xs place old new → AllByRecursion Is xs
each_is line Is xs place old new end b = subst (AllByRecursion Is) (take_all place xs end) b.each
