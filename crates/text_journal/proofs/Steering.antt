-- Which line comes next, by the place of a draft.
use Rattle.std.proofs.Common.{◌≡◌, ◌≢◌, ◌-◌, ℕ, zero, suc, List, arith, refl, sym, subst, Option, Some, None, IfSome, IfNone}
use Rattle.std.specs.Prelude.{MatchOption}
use Rattle.text_journal.specs.declared.draft.Place.{Place}
use Rattle.text_journal.specs.JournalText.{Said, IsLine, Leads, Takes, Lacks}

-- what is answered either way
pub answered : {A : Type 0} (r : Option A) (N : Type 0) (P : A → Type 0) → IfSome r P → IfNone r N → MatchOption r N P
answered None N P some none = none
answered (Some a) N P some none = some

-- a line of this place is what the lines lead on by
pub takes_at : (said : Said) (place : Place) → said.place ≡ place → (text rest : List ℕ) (next : Said) → Takes (IsLine place said.left said.kept) text rest next → Takes (Leads said) text rest next
takes_at said place e text rest next t = subst (λ (p : Place). Takes (IsLine p said.left said.kept) text rest next) (sym e) t

pub lacks_at : (said : Said) (place : Place) → said.place ≡ place → (text : List ℕ) → Lacks (IsLine place said.left said.kept) text → Lacks (Leads said) text
lacks_at said place e text l = subst (λ (p : Place). Lacks (IsLine p said.left said.kept) text) (sym e) l

-- a count that isn't 0 is one more than another
pub one_more : (left : ℕ) → left ≢ 0 → suc (left - 1) ≡ left
one_more zero some = absurd (some refl)
one_more (suc left) some = omega arith

-- sorts of lines by a count
pub lacks_so : (Sort : ℕ → List ℕ → Said → Type 0) (text : List ℕ) (m n : ℕ) → m ≡ n → Lacks (Sort m) text → Lacks (Sort n) text
lacks_so Sort text m n e l = subst (λ (k : ℕ). Lacks (Sort k) text) e l

pub takes_so : (Sort : ℕ → List ℕ → Said → Type 0) (text rest : List ℕ) (next : Said) (m n : ℕ) → m ≡ n → Takes (Sort m) text rest next → Takes (Sort n) text rest next
takes_so Sort text rest next m n e t = subst (λ (k : ℕ). Takes (Sort k) text rest next) e t
