-- An inverse that exists where a test holds.
use Rattle.std.specs.Prelude.{◌≡◌, ◌↔◌, ℕ, ◌==◌, Bool, true, false, Some, None, if◌then◌else◌}
use Rattle.std.proofs.Common.{refl, arith}
use Rattle.std.proofs.lemmas.Bool.Decides.{nat_tests}
use Rattle.std.specs.Option.{IsSome}

-- the inverse exists exactly where the test holds
pub some_where : {O : Type 0} (b : Bool) (x : O) (P : Type 0) → (b ≡ true → P) → (P → b ≡ true) → IsSome (if b then Some x else None) ↔ P
some_where true x P holds test = (λ is. holds refl, λ p. refl)
some_where false x P holds test = (λ is. cc, λ p. test p)

-- the inverse is the given operation, and the test holds
pub made_where : {O : Type 0} (b : Bool) (x made : O) → (if b then Some x else None) ≡ Some made → (b ≡ true) × (x ≡ made)
made_where true x made is = (refl, cc)
made_where false x made is = cc

-- two numbers that pass the test of equality are equal
pub tested_same : (a b : ℕ) → (a == b) ≡ true → a ≡ b
tested_same a b h = grind (arith, nat_tests)

pub same_tested : (a b : ℕ) → a ≡ b → (a == b) ≡ true
same_tested a b h = grind (arith, nat_tests)
