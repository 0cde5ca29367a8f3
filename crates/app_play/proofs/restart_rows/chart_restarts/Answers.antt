use Rattle.std.proofs.Common.{refl, string_bytes}
use Rattle.text_lines.specs.Cuts.{ended}
use Rattle.app_play.specs.Chart.{head_line}
use Rattle.app_play.proofs.Arriving.{holds_more}
use Rattle.app_play.proofs.RestartRows.{text_more}
use Rattle.app_play.proofs.restart_rows.chart_restarts.Goals as goal

pub loop-place-preserved : goal.loop-place-preserved
loop-place-preserved c =
    let notes = c.args.notes.now in
    let i = c.loop-place.place in
    let note = c.index-notes-place.result in
    let within = c.loop-place-test.true in
    let is = c.index-notes-place.is in (
      holds_more notes i note c.loop-place.earlier c.add.new.self within is c.loop-place.invariant.0 c.in_ok-add.ensures,
      text_more c.args.places.now notes i note within is (ended head_line) (string_bytes c.loop-place.text) (string_bytes c.push_turn.new.text) c.loop-place.invariant.1
          (c.in_ok-push_turn.ensures notes i refl c.loop-place.invariant.0 c.in_ok-all.ensures),
    )
