use Rattle.std.proofs.Common.{◌<◌, List, length, sym, subst}
use Rattle.record_base.specs.declared.message.Asked.{Asked}
use Rattle.undo_core.specs.declared.stage.Task.{Task}
use Rattle.undo_core.specs.declared.stage.Task.TheVariants.{Gets}
use Rattle.undo_core.specs.Bounds.{replies_left, left_of, FewerAreLeft}
use Rattle.undo_core.specs.Entered.{AfterTask}
use Rattle.undo_core.specs.Stages.{kept_task}
use Rattle.undo_plans.specs.KeptManager.{Waits}
use Rattle.undo_core.proofs.entering.stage_after.Goals as goal

pub returns-in-Gets-clause-after : goal.returns-in-Gets-clause-after
returns-in-Gets-clause-after c =
    subst (λ (t : Task). AfterTask c.args.steps.now c.args.stopped t c.args.parts c.args.reply c.args.requests.now c.after_get.new.requests c.args.replies.now c.after_get.new.replies c.after_get.result)
    (sym c.in-Gets.is) c.after_get.ensures.after

pub returns-in-Gets-clause-left : goal.returns-in-Gets-clause-left
returns-in-Gets-clause-left c =
    subst (λ (t : Task). FewerAreLeft c.args.steps.now c.args.requests.now c.after_get.new.requests t c.args.parts c.after_get.result) (sym c.in-Gets.is)
    (subst (λ (members : List Asked). replies_left (length c.args.steps.now) (length members) c.after_get.result < left_of c.args.steps.now c.args.requests.now (Gets c.in-Gets.step) c.args.parts)
    (sym c.after_get.ensures.members) (c.after_get.ensures.left c.args.requests.now))

pub returns-in-Sets-clause-after : goal.returns-in-Sets-clause-after
returns-in-Sets-clause-after c =
    subst (λ (t : Task). AfterTask c.args.steps.now c.args.stopped t c.args.parts c.args.reply c.args.requests.now c.after_set.new.requests c.args.replies.now c.args.replies.now c.after_set.result)
    (sym c.in-Sets.is) (c.after_set.ensures.after c.args.replies.now)

pub returns-in-Undoes-clause-after : goal.returns-in-Undoes-clause-after
returns-in-Undoes-clause-after c =
    subst (λ (t : Task). AfterTask c.args.steps.now c.args.stopped t c.args.parts c.args.reply c.args.requests.now c.args.requests.now c.args.replies.now c.args.replies.now c.after_undo.result)
    (sym c.in-Undoes.is) (c.after_undo.ensures.after c.args.steps.now c.args.stopped c.args.replies.now)

pub returns-in-Undoes-clause-left : goal.returns-in-Undoes-clause-left
returns-in-Undoes-clause-left c =
    subst (λ (t : Task). FewerAreLeft c.args.steps.now c.args.requests.now c.args.requests.now t c.args.parts c.after_undo.result) (sym c.in-Undoes.is)
    (c.after_undo.ensures.left c.args.steps.now c.args.requests.now)

pub after_set-requires-clause-waits : goal.after_set-requires-clause-waits
after_set-requires-clause-waits c = subst (λ (t : Task). Waits c.args.requests.now.waiting (kept_task t)) c.in-Sets.is c.requires.waits

pub returns-in-Undoes-clause-placed : goal.returns-in-Undoes-clause-placed
returns-in-Undoes-clause-placed c = c.after_undo.ensures.placed c.args.steps.now
