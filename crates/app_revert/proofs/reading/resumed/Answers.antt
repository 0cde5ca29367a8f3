use Rattle.std.proofs.Common.{subst, sym}
use Rattle.std.proofs.lemmas.Result.{IfErr-weaker, IfOk-weaker}
use Rattle.app_revert.specs.declared.reading.Unfit.{Unfit}
use Rattle.app_revert.specs.Revert.{IsUnfit}
use Rattle.app_revert.proofs.Unfits.{unfit_as_list, unfit_as_undo}
use Rattle.app_revert.proofs.reading.resumed.Goals as goal

pub returns-in-Ok-clause-resumed : goal.returns-in-Ok-clause-resumed
returns-in-Ok-clause-resumed c =
    IfOk-weaker c.resumed_from.result _ _ (λ manager shows. (c.in-Ok.list, c.in-Ok.ensures.list, shows)) c.resumed_from.ensures.resumed

pub returns-in-Ok-clause-fault : goal.returns-in-Ok-clause-fault
returns-in-Ok-clause-fault c =
    IfErr-weaker c.resumed_from.result _ _ (λ why bad. unfit_as_list why c.args.text.now c.in-Ok.list c.in-Ok.ensures.list bad) c.resumed_from.ensures.fault

pub returns-in-Err-clause-fault : goal.returns-in-Err-clause-fault
returns-in-Err-clause-fault c is =
    subst (λ (why : Unfit). IsUnfit why c.args.text.now) (sym c.unfit_text_by.ensures) (unfit_as_undo c.in-Err.why c.args.text.now c.in-Err.ensures.fault is)
