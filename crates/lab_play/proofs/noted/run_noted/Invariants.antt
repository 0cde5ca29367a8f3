use Rattle.std.proofs.Common.{◌≡◌, ◌≤◌, length, take}
use Rattle.two_wire.specs.declared.Bus.{Bus}
use Rattle.lab_run.specs.Shown.{idles_in}
use Rattle.lab_play.specs.Runs.{TakesEvents}
use Rattle.lab_play.specs.Noted.{NotesEvents}
use Rattle.lab_play.specs.Watched.{WatchesAll}
use Rattle.lab_play.proofs.noted.run_noted.Given as goal

abbrev pub invariant-loop-place : goal.invariant-loop-place
invariant-loop-place l =
    TakesEvents (take l.place l.events) l.initial.lab l.lab × ((on : Bus) → idles_in on l.lab.idles ≤ l.place) × NotesEvents (take l.place l.events) l.initial.lab l.notes.items
    × (length l.notes.items ≡ l.place) × (l.place ≤ length l.events) × WatchesAll (take l.place l.events) l.initial.lab l.initial.watch l.watch
