-- The requests of a series, one after another.
use Rattle.std.proofs.Common.{◌≡◌, ◌≢◌, ℕ, List, [], ◌∷◌, ◌++◌, length, Some, sym, ap, subst, arith, append-nil, inl, inr}
use Rattle.std.proofs.lemmas.List.{append_assoc}
use Rattle.two_wire.specs.Codes.{success}
use Rattle.model_bus.specs.Answered.{Answered}
use Rattle.model_undo.specs.Words.{Words, IsNext, IsOneOf, IsSeries, IsMade, AreAnswered, IsReached, AllAnswered}

pub not_empty : (bodies : List (List ℕ)) (body : List ℕ) → bodies ++ body ∷ [] ≢ []
not_empty [] body e = absurd (let n : 1 ≡ 0 = ap (λ (l : List (List ℕ)). length l) e in omega arith)
not_empty (x ∷ xs) body e = absurd (let n : length (x ∷ xs ++ body ∷ []) ≡ 0 = ap (λ (l : List (List ℕ)). length l) e in omega arith)

module _ (M : Words) (series : M.Series) where
  pub is_of : (bodies : List (List ℕ)) (asked : M.Asked) → IsNext M series bodies asked → IsOneOf M series asked
  is_of [] asked is = inl is
  is_of (body ∷ bodies) asked is = inr (body ∷ bodies, is)

  pub is_made : (bodies : List (List ℕ)) (asked : M.Asked) → IsSeries M series → IsNext M series bodies asked → IsMade M asked
  is_made bodies asked made is = (series, made, is_of bodies asked is)

  -- a request that is next after a reply
  pub is_next : (bodies : List (List ℕ)) (body : List ℕ) (asked : M.Asked) → M.next series (bodies ++ body ∷ []) ≡ Some asked → IsNext M series (bodies ++ body ∷ []) asked
  is_next [] body asked e = e
  is_next (x ∷ xs) body asked e = e

  -- one more was answered
  pub one_more : (Given : M.Asked → Answered → Type 0) (before bodies : List (List ℕ)) (asked : M.Asked) (body : List ℕ) → AreAnswered M Given series before bodies → IsNext M series (before ++ bodies) asked
      → Given asked (record { code = success; body = body }) → AreAnswered M Given series before (bodies ++ body ∷ [])
  one_more Given before [] asked body h is given = (asked, subst (λ (l : List (List ℕ)). IsNext M series l asked) (append-nil before) is, given, tt)
  one_more Given before (x ∷ xs) asked body h is given =
      (h.0, h.1, h.2, one_more Given (before ++ x ∷ []) xs asked body h.3 (subst (λ (l : List (List ℕ)). IsNext M series l asked) (sym (append_assoc before (x ∷ []) xs)) is) given)

  -- what was given so was given otherwise
  pub answered_as : (Given Told : M.Asked → Answered → Type 0) → ((asked : M.Asked) (a : Answered) → Given asked a → Told asked a) → (before bodies : List (List ℕ)) → AreAnswered M Given series before bodies → AreAnswered M Told series before bodies
  answered_as Given Told tells before [] h = tt
  answered_as Given Told tells before (x ∷ xs) h = (h.0, h.1, tells h.0 (record { code = success; body = x }) h.2, answered_as Given Told tells (before ++ x ∷ []) xs h.3)

  pub reached_as : (Given Told : M.Asked → Answered → Type 0) → ((asked : M.Asked) (a : Answered) → Given asked a → Told asked a) → (bodies : List (List ℕ)) (asked : M.Asked) → IsReached M Given series bodies asked → IsReached M Told series bodies asked
  reached_as Given Told tells bodies asked h = record { in_order = answered_as Given Told tells [] bodies h.in_order; next = h.next }

  pub all_answered_as : (Given Told : M.Asked → Answered → Type 0) → ((asked : M.Asked) (a : Answered) → Given asked a → Told asked a) → (bodies : List (List ℕ)) → AllAnswered M Given series bodies → AllAnswered M Told series bodies
  all_answered_as Given Told tells bodies h = record { in_order = answered_as Given Told tells [] bodies h.in_order; some = h.some; no_more = h.no_more }
