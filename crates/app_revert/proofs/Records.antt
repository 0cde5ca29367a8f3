-- Which records requests are of.
use Rattle.std.specs.Prelude.{Contains}
use Rattle.std.proofs.Common.{◌≡◌, ◌≢◌, ◌∙◌, ◌↔◌, ◌⊎◌, ◌+◌, ◌<◌, ◌≤◌, ◌++◌, ℕ, List, [], ◌∷◌, Bool, true, false, Some, None, ap, arith, get_or, inl, inr, length, subst, sym, take}
use Rattle.std.specs.List.{slice_get}
use Rattle.std.proofs.lemmas.List.{take_all, take_more}
use Rattle.std.proofs.lemmas.List.Elements.{Contains-push_cases}
use Rattle.std.proofs.lemmas.Option.{slice_get_cases}
use Rattle.record_base.specs.Keys.{same_key}
use Rattle.record_base.specs.KeyLaws.{exact_key, same_key_self}
use Rattle.record_base.specs.declared.key.Key.{Key}
use Rattle.record_base.specs.declared.message.Asked.{Asked}
use Rattle.record_base.specs.declared.op.Op.{Op}
use Rattle.record_kinds.specs.Limits.{key_of}
use Rattle.record_kinds.specs.Series.{set_whole}
use Rattle.record_words.proofs.ReadBack.{one_op}
use Rattle.app_revert.specs.Looks.{IsAmong, IsOf, IsOfSome}

-- a request carries one operation out at most
pub is_of_by : (key named : Key) (request : Asked) (op : Op) (same : Bool) → set_whole op ≡ request → same ≡ same_key named key → named ≡ key_of op
    → (same ≡ true) ↔ IsOf key request
is_of_by key named request op same whole tells is = (
  λ yes. (op, whole, sym is ∙ exact_key named key (sym tells ∙ yes)),
  λ of. tells ∙ ap (same_key named) (sym of.2 ∙ ap key_of (one_op of.0 op (of.1 ∙ sym whole)) ∙ sym is) ∙ same_key_self named,
)

pub is_of_none : (key : Key) (request : Asked) → ((op : Op) → set_whole op ≢ request) → (let never : Bool = false in never ≡ true) ↔ IsOf key request
is_of_none key request none = (λ yes. cc yes, λ is. absurd (none is.0 is.1))

-- among one more is one among those before, or the one
pub among_more : (key : Key) (requests : List Asked) (n : ℕ) → IsAmong key (take (n + 1) requests) → IsAmong key (take n requests) ⊎ IsOfSome key (slice_get requests n)
among_more key requests n (op, there, named) = by (slice_get_cases requests n).1
  where
    by : ((x : Asked) × (n < length requests) × (slice_get requests n ≡ Some x) × (get_or requests n x ≡ x)) ⊎ ((length requests ≤ n) × (slice_get requests n ≡ None))
        → IsAmong key (take n requests) ⊎ IsOfSome key (slice_get requests n)
    by (inl (x, below, got, is)) = pushed (Contains-push_cases (take n requests) x (set_whole op)
        (subst (λ (all : List Asked). Contains all (set_whole op)) (take_more requests n x below ∙ ap (λ (y : Asked). take n requests ++ y ∷ []) is) there))
      where
        pushed : Contains (take n requests) (set_whole op) ⊎ (x ≡ set_whole op) → IsAmong key (take n requests) ⊎ IsOfSome key (slice_get requests n)
        pushed (inl before) = inl (op, before, named)
        pushed (inr same) = inr (subst (IsOfSome key) (sym got) (op, sym same, named))
    by (inr (past, none)) =
        inl (op, subst (λ (all : List Asked). Contains all (set_whole op)) (take_all (n + 1) requests (omega (arith, past)) ∙ sym (take_all n requests past)) there, named)

pub none_more : (key : Key) (requests : List Asked) (n : ℕ) (is : Bool) → ¬ IsAmong key (take n requests) → is ≡ false
    → ((is ≡ true) ↔ IsOfSome key (slice_get requests n)) → ¬ IsAmong key (take (n + 1) requests)
none_more key requests n is none isnt tells more = by (among_more key requests n more)
  where
    by : IsAmong key (take n requests) ⊎ IsOfSome key (slice_get requests n) → ⊥
    by (inl before) = none before
    by (inr here) = let yes : is ≡ true = tells.1 here in cc (sym isnt ∙ yes)
