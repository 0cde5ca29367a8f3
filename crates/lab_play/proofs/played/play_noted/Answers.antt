use Rattle.std.proofs.Common.{Result, refl, sym, subst}
use Rattle.lab_play.specs.declared.played.Played.{Played}
use Rattle.lab_play.specs.declared.played.LabFault.{LabFault}
use Rattle.lab_play.specs.Ends.{PlayResult}
use Rattle.lab_play.specs.Noted.{NotesPlay}
use Rattle.lab_play.proofs.Playing.{plays_given}
use Rattle.lab_play.proofs.Noting.{notes_given}
use Rattle.lab_play.proofs.played.play_noted.Goals as goal

pub returns-clause-plays : goal.returns-clause-plays
returns-clause-plays c =
    subst (λ (r : Result Played LabFault). PlayResult c.args.file c.args.plan.steps c.args.plan.retries c.args.events.now r) (sym c.ending.ensures)
    (plays_given c.args.file c.args.plan.steps c.args.plan.retries c.args.events.now c.in-Ok.played _ c.deref_mut.result.now c.run_noted-ended.result c.in-Ok.ensures.begins c.deref_mut.ensures.value refl c.run_noted-ended.ensures.runs c.run_noted-ended.ensures.watched)

pub returns-clause-noted : goal.returns-clause-noted
returns-clause-noted c =
    let notes = c.run_noted-ended.new.notes.items in
    subst (λ (r : Result Played LabFault). NotesPlay c.args.file c.args.plan.steps c.args.plan.retries c.args.events.now r notes) (sym c.ending.ensures)
    (notes_given c.args.file c.args.plan.steps c.args.plan.retries c.args.events.now notes c.in-Ok.played _ c.deref_mut.result.now c.run_noted-ended.result c.in-Ok.ensures.begins c.deref_mut.ensures.value c.run_noted-ended.ensures.noted)
