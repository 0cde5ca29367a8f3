-- Lines that say items, one each and in their order.
use Rattle.std.proofs.Common.{◌≡◌, ◌<◌, ◌≤◌, ◌+◌, ◌++◌, ◌∷◌, [], ℕ, zero, suc, List, Option, Some, Result, Ok, Err, length, reverse, take, drop, slice_get, arith, sym, ◌∙◌, ap, subst}
use Rattle.std.specs.List.{AllZip, enumerate_from, flat_map}
use Rattle.std.specs.Result.{OnOk}
use Rattle.std.proofs.lemmas.Grind.{flat_map-append}
use Rattle.std.proofs.lemmas.List.{append-nil, append_assoc, reverse-append}
use Rattle.text_lines.specs.Cuts.{ended}
use Rattle.text_check.specs.Telling.{Tells}

-- ---- what is at a place

some_head : {A : Type 0} {a b : A} → (let x : Option A = Some a in x) ≡ Some b → a ≡ b
some_head e = cc e

pub number_at : {A : Type 0} (first : ℕ) (xs : List A) (place : ℕ) (x : A) → slice_get xs place ≡ Some x → slice_get (enumerate_from first xs) place ≡ Some (first + place, x)
number_at first [] place x got = cc got
number_at {A} first (y ∷ ys) zero x got =
    let count : first ≡ first + 0 = omega arith in
    λ i. Some (count i, some_head got i)
number_at {A} first (y ∷ ys) (suc place) x got =
    let count : (first + 1) + place ≡ first + suc place = omega arith in
    number_at (first + 1) ys place x got ∙ ap (λ (n : ℕ). Some (n, x)) count

number_here : {A : Type 0} (xs : List A) (place : ℕ) (x : A) → slice_get xs place ≡ Some x → slice_get (enumerate_from 0 xs) place ≡ Some (place, x)
number_here xs place x got =
    let count : 0 + place ≡ place = omega arith in
    number_at 0 xs place x got ∙ ap (λ (n : ℕ). Some (n, x)) count

pub taken_at : {A : Type 0} (count : ℕ) (xs : List A) (place : ℕ) (x : A) → place < count → slice_get xs place ≡ Some x → slice_get (take count xs) place ≡ Some x
taken_at zero xs place x low got = absurd (omega (arith, low))
taken_at (suc count) [] place x low got = cc got
taken_at (suc count) (y ∷ ys) zero x low got = got
taken_at (suc count) (y ∷ ys) (suc place) x low got = taken_at count ys place x (omega (arith, low)) got

pub few_taken : {A : Type 0} (count : ℕ) (xs : List A) → length (take count xs) ≤ count
few_taken zero xs = omega arith
few_taken (suc count) [] = omega arith
few_taken (suc count) (x ∷ xs) = omega (arith, few_taken count xs)

-- the first so many, and one more
pub take_at : {A : Type 0} (xs : List A) (place : ℕ) (x : A) → slice_get xs place ≡ Some x → take (suc place) xs ≡ take place xs ++ x ∷ []
take_at [] place x got = cc got
take_at (y ∷ ys) zero x got = ap (λ z. z ∷ []) (some_head got)
take_at (y ∷ ys) (suc place) x got = ap (λ l. y ∷ l) (take_at ys place x got)

-- those from a place on
pub drop_at : {A : Type 0} (xs : List A) (place : ℕ) (x : A) → slice_get xs place ≡ Some x → drop place xs ≡ x ∷ drop (suc place) xs
drop_at [] place x got = cc got
drop_at (y ∷ ys) zero x got = ap (λ z. z ∷ ys) (some_head got)
drop_at (y ∷ ys) (suc place) x got = drop_at ys place x got

-- ---- lines

zip_push : {A B : Type 0} (Is : A → B → Type 0) (xs : List A) (ys : List B) (x : A) (y : B) → AllZip Is xs ys → Is x y → AllZip Is (xs ++ x ∷ []) (ys ++ y ∷ [])
zip_push Is [] [] x y all is = (is, tt)
zip_push Is [] (b ∷ ys) x y all is = absurd all
zip_push Is (a ∷ xs) [] x y all is = absurd all
zip_push Is (a ∷ xs) (b ∷ ys) x y all is = (all.0, zip_push Is xs ys x y all.1 is)

-- lines that say these items
abbrev pub Say : {B : Type 0} → (Is : List ℕ → B → Type 0) → List B → List (List ℕ) → Type 0
Say Is items lines = AllZip Is lines items

pub tells_none : {B : Type 0} (Is : List ℕ → B → Type 0) (text : List ℕ) → Tells (Say Is []) text text
tells_none Is text = record { lines = []; are = tt; text = sym (append-nil text) }

pub tells_more : {B : Type 0} (Is : List ℕ → B → Type 0) (items : List B) (item : B) (line old now new : List ℕ)
    → Tells (Say Is items) old now → Is line item → new ≡ now ++ ended line → Tells (Say Is (items ++ item ∷ [])) old new
tells_more Is items item line old now new so is more =
    let lines = so.lines in
    let both : flat_map ended (lines ++ line ∷ []) ≡ flat_map ended lines ++ ended line =
    flat_map-append ended lines (line ∷ []) ∙ ap (λ (l : List ℕ). flat_map ended lines ++ l) (append-nil (ended line)) in
    record {
      lines = lines ++ line ∷ [];
      are = zip_push Is lines items line item so.are is;
      text = more ∙ ap (λ (l : List ℕ). l ++ ended line) so.text ∙ append_assoc old (flat_map ended lines) (ended line) ∙ ap (λ (l : List ℕ). old ++ l) (sym both);
    }

-- one item more of the first so many of a numbered list
pub tells_next : {A : Type 0} (Is : List ℕ → ℕ × A → Type 0) (xs : List A) (place : ℕ) (x : A) (line old now new : List ℕ) → slice_get xs place ≡ Some x
    → Tells (Say Is (take place (enumerate_from 0 xs))) old now → Is line (place, x) → new ≡ now ++ ended line → Tells (Say Is (take (suc place) (enumerate_from 0 xs))) old new
tells_next {A} Is xs place x line old now new got so is more =
    let items = enumerate_from 0 xs in
    let same : take (suc place) items ≡ take place items ++ (place, x) ∷ [] = take_at items place (place, x) (number_here xs place x got) in
    subst (λ (l : List (ℕ × A)). Tells (Say Is l) old new) (sym same) (tells_more Is (take place items) (place, x) line old now new so is more)

-- one before those of the first so many that are told from the last on
pub tells_before : {A : Type 0} (Is : List ℕ → ℕ × A → Type 0) (xs : List A) (count place : ℕ) (x : A) (line old now new : List ℕ) → place < count → slice_get xs place ≡ Some x
    → Tells (Say Is (reverse (drop (suc place) (take count (enumerate_from 0 xs))))) old now → Is line (place, x) → new ≡ now ++ ended line
    → Tells (Say Is (reverse (drop place (take count (enumerate_from 0 xs))))) old new
tells_before {A} Is xs count place x line old now new low got so is more =
    let items = take count (enumerate_from 0 xs) in
    let rest = drop (suc place) items in
    let from : drop place items ≡ (place, x) ∷ rest = drop_at items place (place, x) (taken_at count (enumerate_from 0 xs) place (place, x) low (number_here xs place x got)) in
    let same : reverse (drop place items) ≡ reverse rest ++ (place, x) ∷ [] = ap reverse from ∙ reverse-append ((place, x) ∷ []) rest in
    subst (λ (l : List (ℕ × A)). Tells (Say Is l) old new) (sym same) (tells_more Is (reverse rest) (place, x) line old now new so is more)

-- ---- one line, and lines behind others

pub on_ok : {T E : Type 0} (r : Result T E) (A B : Type 0) → (A → B) → OnOk r A → OnOk r B
on_ok (Ok value) A B so is = so is
on_ok (Err fault) A B so is = tt

pub tells_as : (Are Other : List (List ℕ) → Type 0) (old new : List ℕ) → ((lines : List (List ℕ)) → Are lines → Other lines) → Tells Are old new → Tells Other old new
tells_as Are Other old new so it = record { lines = it.lines; are = so it.lines it.are; text = it.text }

pub tells_one : (Are : List (List ℕ) → Type 0) (line old new : List ℕ) → Are (line ∷ []) → new ≡ old ++ ended line → Tells Are old new
tells_one Are line old new is more = record {
  lines = line ∷ [];
  are = is;
  text = more ∙ ap (λ (l : List ℕ). old ++ l) (sym (append-nil (ended line)));
}

pub tells_nothing : (Are : List (List ℕ) → Type 0) (text : List ℕ) → Are [] → Tells Are text text
tells_nothing Are text is = record { lines = []; are = is; text = sym (append-nil text) }

-- lines in three parts
pub tells_three : (First Second Third Are : List (List ℕ) → Type 0) (a b c d : List ℕ) → ((x y z : List (List ℕ)) → First x → Second y → Third z → Are (x ++ (y ++ z)))
    → Tells First a b → Tells Second b c → Tells Third c d → Tells Are a d
tells_three First Second Third Are a b c d join p q r =
    let back : flat_map ended (q.lines ++ r.lines) ≡ flat_map ended q.lines ++ flat_map ended r.lines = flat_map-append ended q.lines r.lines in
    let all : flat_map ended (p.lines ++ (q.lines ++ r.lines)) ≡ flat_map ended p.lines ++ (flat_map ended q.lines ++ flat_map ended r.lines) =
    flat_map-append ended p.lines (q.lines ++ r.lines) ∙ ap (λ (l : List ℕ). flat_map ended p.lines ++ l) back in
    record {
      lines = p.lines ++ (q.lines ++ r.lines);
      are = join p.lines q.lines r.lines p.are q.are r.are;
      text = r.text ∙ ap (λ (l : List ℕ). l ++ flat_map ended r.lines) (q.text ∙ ap (λ (l : List ℕ). l ++ flat_map ended q.lines) p.text)
          ∙ append_assoc (a ++ flat_map ended p.lines) (flat_map ended q.lines) (flat_map ended r.lines)
          ∙ append_assoc a (flat_map ended p.lines) (flat_map ended q.lines ++ flat_map ended r.lines)
          ∙ ap (λ (l : List ℕ). a ++ l) (sym all);
    }
