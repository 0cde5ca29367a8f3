use Rattle.std.proofs.Common.{List, string_bytes, subst, sym}
use Rattle.text_lines.specs.declared.event.Event.{Event}
use Rattle.lab_run.specs.declared.note.Note.{Note}
use Rattle.app_play.specs.Strict.{NotesEnd}
use Rattle.app_play.proofs.Strictly.{draws_by}
use Rattle.app_play.proofs.strict.chart_report.Goals as goal

pub returns-clause-drawn : goal.returns-clause-drawn
returns-clause-drawn c =
    let strict = c.args.strict in
    let places = c.args.places.now in
    let inputs = c.args.inputs in
    let stopped = c.in_ok-stopped.stopped in
    let status = c.in_ok-stopped.status in
    draws_by strict places inputs (string_bytes c.in_ok-report.report.text) c.as_slice.result.now stopped status
    (subst (λ (notes : List Note). NotesEnd strict inputs.file inputs.plan.steps inputs.plan.retries places inputs.events stopped status notes) (sym c.as_slice.ensures.value)
    (subst (λ (events : List Event). NotesEnd strict inputs.file inputs.plan.steps inputs.plan.retries places events stopped status c.noted_ending.new.notes.items) c.as_slice-events.ensures c.in_ok-stopped.ensures))
    c.in_ok-report.ensures.text
