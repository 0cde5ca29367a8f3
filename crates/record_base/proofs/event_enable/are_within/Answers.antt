use Rattle.std.proofs.Common.{◌≡◌, nat_eq, IsTrue, eq-eqb, ℕ, arith}
use Rattle.std.proofs.lemmas.Bool.Decides.{nat_tests}
use Rattle.record_base.specs.MaskLaws.{same_test}
use Rattle.record_base.specs.EventLaws.{within_true, true_within}
use Rattle.record_base.proofs.MaskBits.{AreWithin-from_zero, zero-from_AreWithin}
use Rattle.record_base.proofs.event_enable.are_within.Goals as goal

test_zero : (n : ℕ) → IsTrue (nat_eq n 0) → n ≡ 0
test_zero n h = grind (arith, nat_tests)

pub returns-clause-test : goal.returns-clause-test
returns-clause-test c =
    same_test _ _
    (λ h. true_within c.args.events c.args.others (AreWithin-from_zero c.args.events c.args.others (omega arith) (test_zero _ h)))
    (λ h. eq-eqb _ 0 (zero-from_AreWithin c.args.events c.args.others (omega arith) (omega arith) (within_true c.args.events c.args.others h)))

pub returns-clause-means : goal.returns-clause-means
returns-clause-means c = (
  λ h. AreWithin-from_zero c.args.events c.args.others (omega arith) (test_zero _ h),
  λ h. eq-eqb _ 0 (zero-from_AreWithin c.args.events c.args.others (omega arith) (omega arith) h),
)
