use Rattle.std.proofs.Common.{rules, ℕ, ◌-◌, take, Some, sym, ◌∙◌, ap, subst, arith}
use Rattle.undo_plans.specs.Requests.{meant}
use Rattle.model_undo.specs.Machine as machine
use Rattle.undo_core.specs.declared.stage.Stage.TheVariants.{AtUndone}
use Rattle.undo_core.specs.Shown.{words_of, backs, IsStage}
use Rattle.undo_core.proofs.Backs.{undoes_next}
use Rattle.undo_plans.proofs.FirstRequest.{begins_at}
use Rattle.undo_core.proofs.Placed.{undo_placed}
use Rattle.undo_core.proofs.entering.undo_stage.Goals as goal

pub returns-in-Some-clause-stage : goal.returns-in-Some-clause-stage
returns-in-Some-clause-stage c names plan replies =
    undoes_next names plan c.args.requests.now replies c.args.left (meant c.in-Some.request) c.first.result (omega (arith, c.if-left-eq0.false)) (search rules) c.first.ensures

pub returns-then-left-eq0-clause-stage : goal.returns-then-left-eq0-clause-stage
returns-then-left-eq0-clause-stage c names plan replies =
    subst (λ (n : ℕ). IsStage names plan c.args.requests.now replies AtUndone (machine.undo_stage (words_of names) (backs (take n c.args.requests.now.members)))) (sym c.if-left-eq0.true) tt

pub returns-then-left-eq0-clause-left : goal.returns-then-left-eq0-clause-left
returns-then-left-eq0-clause-left c steps undone = omega arith

pub returns-in-Some-clause-placed : goal.returns-in-Some-clause-placed
returns-in-Some-clause-placed c plan =
    undo_placed plan c.args.requests.now (c.args.left - 1) 0 (meant c.in-Some.request) c.first.result (search rules) (begins_at (meant c.in-Some.request) ∙ ap Some (sym c.first.ensures))
