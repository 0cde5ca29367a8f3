use Rattle.std.proofs.Common.{Result, refl, sym, subst}
use Rattle.lab_play.specs.declared.played.Played.{Played}
use Rattle.lab_play.specs.declared.played.LabFault.{LabFault}
use Rattle.lab_play.specs.Restarting.{RestartedResult, NotesTurns}
use Rattle.lab_play.proofs.Remaking.{plays_given, notes_given}
use Rattle.lab_play.proofs.played.play_restarting.Goals as goal

pub returns-clause-plays : goal.returns-clause-plays
returns-clause-plays c =
    subst (λ (r : Result Played LabFault). RestartedResult c.args.file c.args.plan.steps c.args.plan.retries c.args.places.now c.args.events.now r) (sym c.ending.ensures)
    (plays_given c.args.file c.args.plan.steps c.args.plan.retries (c.restarted_plays_stand.ensures c.args.file c.args.plan.steps c.args.plan.retries) c.args.places.now c.args.events.now c.in-Ok.played _ c.deref_mut.result.now c.run_restarting-ended.result c.in-Ok.ensures.begins c.deref_mut.ensures.value refl c.run_restarting-ended.ensures.runs c.run_restarting-ended.ensures.watched)

pub returns-clause-noted : goal.returns-clause-noted
returns-clause-noted c =
    let notes = c.run_restarting-ended.new.notes.items in
    subst (λ (r : Result Played LabFault). NotesTurns c.args.file c.args.plan.steps c.args.plan.retries c.args.places.now c.args.events.now r notes) (sym c.ending.ensures)
    (notes_given c.args.file c.args.plan.steps c.args.plan.retries c.args.places.now c.args.events.now notes c.in-Ok.played _ c.deref_mut.result.now c.run_restarting-ended.result c.in-Ok.ensures.begins c.deref_mut.ensures.value c.run_restarting-ended.ensures.noted)
