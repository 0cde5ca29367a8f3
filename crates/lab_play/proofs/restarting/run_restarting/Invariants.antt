use Rattle.std.proofs.Common.{◌≡◌, ◌≤◌, length, take}
use Rattle.two_wire.specs.declared.Bus.{Bus}
use Rattle.lab_run.specs.Shown.{idles_in}
use Rattle.lab_play.specs.Restarts.{turns_of}
use Rattle.lab_play.specs.Restarting.{TakesTurns, WatchesTurns, NotesTurnsOf}
use Rattle.lab_play.proofs.restarting.run_restarting.Given as goal

abbrev pub invariant-loop-place : goal.invariant-loop-place
invariant-loop-place l =
    TakesTurns (turns_of l.places (take l.place l.events)) l.initial.lab l.lab × ((on : Bus) → idles_in on l.lab.idles ≤ l.place) × WatchesTurns l.places (take l.place l.events) l.initial.lab l.initial.watch l.watch
    × NotesTurnsOf l.places (take l.place l.events) l.initial.lab l.notes.items × (length l.notes.items ≡ l.place) × (l.place ≤ length l.events)
