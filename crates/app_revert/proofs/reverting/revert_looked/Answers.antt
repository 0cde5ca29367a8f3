use Rattle.std.proofs.Common.{inl, refl}
use Rattle.app_revert.proofs.reverting.revert_looked.Goals as goal

pub returns-in-Err-clause-comes : goal.returns-in-Err-clause-comes
returns-in-Err-clause-comes g c = inl refl
