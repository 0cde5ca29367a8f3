-- What readers of texts answer.
use Rattle.std.proofs.Common.{◌≡◌, ◌⊎◌, inl, inr, Result, Ok, Err}

-- a reader that answers a value wasn't refused memory
pub was_read : {A E R : Type 0} (a : A) (why : E) → (Ok a ≡ Err why) ⊎ R → R
was_read a why (inl e) = cc e
was_read a why (inr r) = r

-- a reader that answers a fault was refused memory, or refuses
pub was_refused : (A : Type 0) {E R : Type 0} (a b : E) → (◌≡◌ {A = Result A E} (Err a) (Err b)) ⊎ R → (a ≡ b) ⊎ R
was_refused A a b (inl e) = inl (cc e)
was_refused A a b (inr r) = inr r
