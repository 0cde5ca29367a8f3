-- A schedule that is made of a plan on a board.
use Rattle.std.specs.Prelude.{◌≡◌, ◌≤◌, ℕ, Bool, true, false, List, length}
use Rattle.std.specs.List.{AllByRecursion}
use Rattle.cfg_records.specs.declared.board_file.BoardFile.{BoardFile}
use Rattle.record_base.specs.declared.op.Op.{Op}
use Rattle.text_lines.specs.declared.event.Event.{Event}
use Rattle.undo_plans.specs.Steps.{most_steps}
use Rattle.text_lines.specs.Written.{has_line}
use Rattle.model_lab.specs.Lab.{opening}
use Rattle.model_lab.specs.Meaning.{lab_names}
use Rattle.model_lab.specs.Played.{plans, Told, Whole, IsPlayed}
use Rattle.model_headline.specs.Plays.{AllKeepPremise}
use Rattle.model_headline.specs.CleanPlays.{StartsClean, UndoesClean}
use Rattle.lab_play.specs.Drawn as drawn
use Rattle.lab_play.specs.declared.schedule_drawing.Drawing.{Drawing}
use Rattle.lab_play.specs.declared.schedule_making.Links.{Links}
use Rattle.lab_play.specs.declared.schedule_making.Links.TheVariants.{Clean, Drawn}
use Rattle.lab_play.specs.declared.schedule_making.ScheduleOptions.{ScheduleOptions}

-- over clean links a schedule starts the plan, and undoes it where that is wanted, and each frame is delivered once, in the order of their numbers,
-- until none is left
abbrev pub IsCleanFor : BoardFile → List Op → (retries : ℕ) → Links → (undo : Bool) → List Event → Type 0
IsCleanFor file steps retries Clean false events = StartsClean file steps retries events
IsCleanFor file steps retries Clean true events = UndoesClean file steps retries events
IsCleanFor file steps retries (Drawn chances) undo events = Unit {0}

-- a packet may join one that waits too long
abbrev pub joins_late : Links → Bool
joins_late Clean = false
joins_late (Drawn chances) = chances.late_joins

-- The schedule that was wanted of the plan on the board of the file. A play of it takes each event, and a line can say each. Unless packets may join
-- such as wait too long, each event keeps the premise on packets.
pub record IsMade (file : BoardFile) (steps : List Op) (retries : ℕ) (wanted : ScheduleOptions) (events : List Event) : Type 0 where
  pub told : Told
  pub played : IsPlayed file steps retries events (Whole told)
  pub lines : AllByRecursion (λ e. has_line e ≡ true) events
  pub kept : joins_late wanted.links ≡ false → AllKeepPremise file events (opening plans file lab_names steps retries)
  pub clean : IsCleanFor file steps retries wanted.links wanted.undo events

-- in an empty drawing of a plan's lab a clean schedule comes about, which undoes the plan where that is wanted
abbrev pub MakesClean : Bool → Drawing → Drawing → Type 0
MakesClean undo old new =
    (file : BoardFile) (steps : List Op) (retries : ℕ) → length steps ≤ most_steps → drawn.IsDrawnSchedule file (opening plans file lab_names steps retries) old
    → IsMade file steps retries (record { links = Clean; undo = undo }) new.events.items
