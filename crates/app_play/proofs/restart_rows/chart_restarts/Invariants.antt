use Rattle.std.proofs.Common.{◌≡◌, ◌++◌, take, string_bytes}
use Rattle.std.specs.List.{flat_map}
use Rattle.text_lines.specs.Cuts.{ended}
use Rattle.app_play.specs.Arrivals.{HoldsNotes}
use Rattle.app_play.specs.Chart.{head_line}
use Rattle.app_play.specs.Restarted.{turn_rows}
use Rattle.app_play.proofs.restart_rows.chart_restarts.Given as goal

abbrev pub invariant-loop-place : goal.invariant-loop-place
invariant-loop-place l =
    HoldsNotes l.earlier (take l.place l.notes) × (string_bytes l.text ≡ ended head_line ++ flat_map ended (turn_rows l.places l.notes (take l.place l.notes)))
