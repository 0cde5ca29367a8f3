-- Where a key's record lies, once one more has a place.
use Rattle.std.proofs.Common.{◌≡◌, ℕ, Option, Some, None, Bool, true, false, if◌then◌else◌, refl, sym, ◌∙◌, ap}
use Rattle.std.specs.Option.{option_or}
use Rattle.record_base.specs.declared.key.Key.{Key}
use Rattle.record_base.specs.Keys.{same_key}
use Rattle.record_base.specs.KeyLaws.{exact_key}

-- neither has the key
pub neither : (p q : Option ℕ) → option_or p q ≡ None → (p ≡ None) × (q ≡ None)
neither (Some x) q none = cc
neither None q none = (refl, none)

more_last_where : (b : Bool) (p q : Option ℕ) (at : ℕ) → (b ≡ true → p ≡ None) → option_or p (if b then Some at else q) ≡ (if b then Some at else option_or p q)
more_last_where true p q at none = ap (λ (o : Option ℕ). option_or o (Some at)) (none refl)
more_last_where false p q at none = refl

-- one more among the last
pub more_last : (first : Key → Option ℕ) (q : Option ℕ) (key k : Key) (at : ℕ) → first key ≡ None → option_or (first k) (if same_key key k then Some at else q) ≡ (if same_key key k then Some at else option_or (first k) q)
more_last first q key k at none = more_last_where (same_key key k) (first k) q at (λ same. ap first (sym (exact_key key k same)) ∙ none)
