use Rattle.std.proofs.Common.{List, subst, sym}
use Rattle.text_lines.specs.declared.event.Event.{Event}
use Rattle.lab_run.specs.declared.note.Note.{Note}
use Rattle.app_play.specs.Restarted.{NotesTurnsPlay}
use Rattle.app_play.proofs.RestartedRuns.{draws}
use Rattle.app_play.proofs.restarted.drawn_restarts.Goals as goal

pub returns-clause-drawn : goal.returns-clause-drawn
returns-clause-drawn c =
    let places = c.args.places.now in
    let inputs = c.args.inputs in
    let stopped = c.in_ok-stopped.stopped in
    draws places inputs c.drawing.result c.as_slice.result.now stopped
    (subst (λ (notes : List Note). NotesTurnsPlay inputs.file inputs.plan.steps inputs.plan.retries places inputs.events stopped notes) (sym c.as_slice.ensures.value)
    (subst (λ (events : List Event). NotesTurnsPlay inputs.file inputs.plan.steps inputs.plan.retries places events stopped c.noted_restarts.new.notes.items) c.as_slice-events.ensures c.in_ok-stopped.ensures))
    c.drawing.ensures.text c.drawing.ensures.status
