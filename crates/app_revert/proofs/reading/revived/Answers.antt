use Rattle.std.proofs.Common.{subst, sym}
use Rattle.app_revert.specs.declared.reading.Unfit.{Unfit}
use Rattle.app_revert.specs.Revert.{IsUnfit}
use Rattle.app_revert.proofs.Unfits.{unfit_as_journal}
use Rattle.app_revert.proofs.reading.revived.Goals as goal

pub returns-in-Err-clause-fault : goal.returns-in-Err-clause-fault
returns-in-Err-clause-fault c is =
    subst (λ (why : Unfit). IsUnfit why c.args.text.now) (sym c.unfit_journal.ensures) (unfit_as_journal c.in-Err.why c.args.text.now c.in-Err.ensures.fault is)
