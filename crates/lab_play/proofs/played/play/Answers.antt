use Rattle.std.proofs.Common.{Result, refl, sym, subst}
use Rattle.lab_play.specs.declared.played.Played.{Played}
use Rattle.lab_play.specs.declared.played.LabFault.{LabFault}
use Rattle.lab_play.specs.Ends.{PlayResult}
use Rattle.lab_play.proofs.Playing.{plays_given}
use Rattle.lab_play.proofs.played.play.Goals as goal

pub returns : goal.returns
returns c =
    subst (λ (r : Result Played LabFault). PlayResult c.args.file c.args.plan.steps c.args.plan.retries c.args.events.now r) (sym c.ending.ensures)
    (plays_given c.args.file c.args.plan.steps c.args.plan.retries c.args.events.now c.in-Ok.played _ c.deref_mut.result.now c.run-ended.result c.in-Ok.ensures.begins c.deref_mut.ensures.value refl c.run-ended.ensures.runs c.run-ended.ensures.watched)
