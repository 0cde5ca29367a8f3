use Rattle.std.proofs.Common.{Bool, sym, ◌∙◌, subst}
use Rattle.model_lab.specs.Played.{happens}
use Rattle.lab_run.specs.Shown.{Represents}
use Rattle.lab_play.specs.Restarts.{remade_if, after}
use Rattle.lab_play.proofs.restarting.step_restarting.Goals as goal

pub returns-in-Ok-clause-steps : goal.returns-in-Ok-clause-steps
returns-in-Ok-clause-steps c = λ file x shows.
    let one = c.in_ok-step_noted.ensures.steps file x shows in (
      one.0,
      subst (λ (made : Bool). Represents file c.restart.new.self (after file (remade_if made) (happens file c.args.event.now x)))
          (sym c.if-not-has_place.false ∙ c.has_place.ensures)
          (c.in-Ok.ensures.becomes file (happens file c.args.event.now x) one.1),
    )
