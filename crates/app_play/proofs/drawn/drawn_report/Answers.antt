use Rattle.std.proofs.Common.{List, subst, sym}
use Rattle.text_lines.specs.declared.event.Event.{Event}
use Rattle.lab_run.specs.declared.note.Note.{Note}
use Rattle.app_play.specs.Drawn.{NotesPlayOf}
use Rattle.app_play.proofs.Noted.{draws}
use Rattle.app_play.proofs.drawn.drawn_report.Goals as goal

pub returns-clause-drawn : goal.returns-clause-drawn
returns-clause-drawn c =
    draws c.args.inputs c.drawing.result c.as_slice-2.result.now c.in_ok-stopped.stopped
    (subst (λ (notes : List Note). NotesPlayOf c.args.inputs.file c.args.inputs.plan.steps c.args.inputs.plan.retries c.args.inputs.events c.in_ok-stopped.stopped notes) (sym c.as_slice-2.ensures.value)
    (subst (λ (events : List Event). NotesPlayOf c.args.inputs.file c.args.inputs.plan.steps c.args.inputs.plan.retries events c.in_ok-stopped.stopped c.noted.new.notes.items) c.as_slice.ensures c.in_ok-stopped.ensures))
    c.drawing.ensures.text c.drawing.ensures.status
