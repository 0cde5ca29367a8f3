use Rattle.std.proofs.Common.{length, refl, sym}
use Rattle.std.proofs.lemmas.Slice.Zip.{AllZip-long}
use Rattle.lab_run.specs.declared.note.Note.{Note}
use Rattle.lab_run.specs.Shown.{IsSentFrame}
use Rattle.lab_play.proofs.Noting.{is_noted}
use Rattle.lab_play.proofs.noted.step_noted.Goals as goal

pub returns-in-Ok-clause-noted : goal.returns-in-Ok-clause-noted
returns-in-Ok-clause-noted c =
    let note : Note = record {
      event = c.args.event;
      came = c.came-came.result;
      done = c.done.result;
      sends = c.bus_of.result;
      before = length c.frames-before.result.now;
      after = length c.frames.result.now;
      phase = c.phase.result;
    } in (
      note,
      c.in-Ok.ensures.items,
      λ file x shows.
          is_noted c.args.event.now c.args.lab.now c.step_watched.new.lab note file x shows (c.in_ok-step_watched.ensures.steps file x shows) c.in_ok-step_watched.ensures.done refl
          (c.came-came.ensures file x shows) c.done.ensures (λ y shown. c.bus_of.ensures file y shown)
          (sym (AllZip-long IsSentFrame c.frames-before.result.now x.frames (c.frames-before.ensures file x shows)))
          (λ y shown. sym (AllZip-long IsSentFrame c.frames.result.now y.frames (c.frames.ensures file y shown)))
          (λ y shown. c.phase.ensures file y shown),
    )
