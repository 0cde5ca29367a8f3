use Rattle.std.proofs.Common.{◌≡◌, nat_eq, IsTrue, eq-eqb, ℕ, arith}
use Rattle.std.proofs.lemmas.Bool.Decides.{nat_tests}
use Rattle.record_base.specs.MaskLaws.{same_test, within_true, true_within}
use Rattle.record_base.proofs.MaskBits.{IsWithin-from_zero, zero-from_IsWithin}
use Rattle.record_base.proofs.mask.is_within.Goals as goal

test_zero : (n : ℕ) → IsTrue (nat_eq n 0) → n ≡ 0
test_zero n h = grind (arith, nat_tests)

pub returns : goal.returns
returns c =
    same_test _ _
    (λ h. true_within c.args.mask c.args.set (IsWithin-from_zero c.args.mask c.args.set (omega arith) (test_zero _ h)))
    (λ h. eq-eqb _ 0 (zero-from_IsWithin c.args.mask c.args.set (omega arith) (omega arith) (within_true c.args.mask c.args.set h)))
