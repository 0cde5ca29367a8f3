use Rattle.std.proofs.Common.{refl, subst}
use Rattle.undo_plans.specs.declared.plan.Plan.{Plan}
use Rattle.app_look.specs.declared.session.Way.{Way}
use Rattle.app_change.specs.KeepLook.{FailsFor, KeptByLook}
use Rattle.app_change.specs.Looks.{way_of}
use Rattle.app_change.proofs.Kept.{keeps_changes}
use Rattle.app_change.proofs.changing.keep_changes.Goals as goal

pub returns-in-Ok-clause-kept : goal.returns-in-Ok-clause-kept
returns-in-Ok-clause-kept g c =
    let kept : Plan = record { steps = c.in-Ok.steps.narrowed.kept; retries = c.args.plan.now.retries } in
    keeps_changes (way_of c.args.plan.now c.args.reach.now) c.args.plan.now kept c.in-Ok.steps.names
    (subst (λ (way : Way). KeptByLook way c.args.plan.now.steps c.in-Ok.steps.narrowed.kept c.in-Ok.steps.names) {y = way_of c.args.plan.now c.args.reach.now} c.way_of-way.ensures
    c.in-Ok.ensures.kept) refl

pub returns-in-Err-clause-fault : goal.returns-in-Err-clause-fault
returns-in-Err-clause-fault g c = subst (λ (way : Way). FailsFor way c.args.plan.now.steps c.in-Err.why) c.way_of-way.ensures c.in-Err.ensures.fault
