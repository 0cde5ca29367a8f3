use Rattle.std.proofs.Common.{◌≡◌, Bool, true, false, Option, Some, refl, sym, ◌∙◌, ap, subst, arith}
use Rattle.std.specs.Prelude.{slice_get}
use Rattle.std.proofs.lemmas.Option.{slice_get_within}
use Rattle.record_base.specs.declared.op.Op.{Op}
use Rattle.record_kinds.specs.Limits.{get_asked}
use Rattle.model_undo.specs.Machine as machine
use Rattle.model_undo.specs.declared.phase.Why.TheVariants.{Stop}
use Rattle.undo_core.specs.Shown.{words_of, own, IsStage}
use Rattle.undo_core.specs.declared.stage.Stage.TheVariants.{Opened, AtHalt}
use Rattle.undo_core.specs.declared.stage.Task.TheVariants.{Gets}
use Rattle.undo_core.proofs.Placed.{got_placed}
use Rattle.undo_core.proofs.entering.step_stage.Goals as goal

pub returns-then-stopped-clause-stage : goal.returns-then-stopped-clause-stage
returns-then-stopped-clause-stage c names requests replies =
    let plan = c.args.steps.now in
    let there : slice_get plan c.args.step ≡ Some c.in-Some.op = sym c.get.ensures ∙ c.in-Some.is in
    subst (λ (b : Bool). IsStage names plan requests replies (AtHalt c.args.step Stop) (machine.next_stage (words_of names) b c.args.step (slice_get plan c.args.step))) (sym c.if-stopped.true)
    (subst (λ (o : Option Op). IsStage names plan requests replies (AtHalt c.args.step Stop) (machine.next_stage (words_of names) true c.args.step o)) (sym there) (refl, refl))

pub returns-else-stopped-clause-stage : goal.returns-else-stopped-clause-stage
returns-else-stopped-clause-stage c names requests replies =
    let plan = c.args.steps.now in
    let there : slice_get plan c.args.step ≡ Some c.in-Some.op = sym c.get.ensures ∙ c.in-Some.is in
    let stage = Opened true (Gets c.args.step) 0 c.get_asked.result in
    subst (λ (b : Bool). IsStage names plan requests replies stage (machine.next_stage (words_of names) b c.args.step (slice_get plan c.args.step))) (sym c.if-stopped.false)
    (subst (λ (o : Option Op). IsStage names plan requests replies stage (machine.next_stage (words_of names) false c.args.step o)) (sym there)
    (refl, (refl, there), refl, tt, ap (own names) (c.get_asked.ensures ∙ ap get_asked c.key.ensures)))

pub returns-else-stopped-clause-planned : goal.returns-else-stopped-clause-planned
returns-else-stopped-clause-planned c =
    omega (arith, slice_get_within c.args.steps.now c.args.step c.in-Some.op (sym c.get.ensures ∙ c.in-Some.is))

pub returns-else-stopped-clause-placed : goal.returns-else-stopped-clause-placed
returns-else-stopped-clause-placed c any =
    let there : slice_get c.args.steps.now c.args.step ≡ Some c.in-Some.op = sym c.get.ensures ∙ c.in-Some.is in
    got_placed c.args.steps.now any c.args.step 0 c.in-Some.op c.get_asked.result there (ap Some (sym (c.get_asked.ensures ∙ ap get_asked c.key.ensures)))
