-- How a run of `bmcnet revert` ends, with its option.
use Rattle.std.specs.Prelude.{◌≡◌, ◌⊎◌, ℕ, Bool, true, false, List, Option, Ok}
use Rattle.undo_core.specs.declared.manager.Manager.{Manager}
use Rattle.app_base.specs.declared.console.Console.{Console}
use Rattle.app_base.specs.declared.console.Stream.TheVariants.{Output}
use Rattle.app_base.specs.declared.status.Status.TheVariants.{Success, RefusedFile}
use Rattle.app_base.specs.declared.files.TextFiles as texts
use Rattle.app_base.specs.Ending.{RunEnds}
use Rattle.app_base.specs.Files.{Readings}
use Rattle.app_journal.specs.declared.files.WritesFiles as written
use Rattle.app_apply.specs.Ends.{SaysOn, SaysUnreadOn, stream_for}
use Rattle.app_revert.specs.declared.reading.Unfit.{Unfit}
use Rattle.app_revert.specs.Revert.{IsManagerOf, IsUnfit, RevertEndsOf}
use Rattle.app_change.specs.declared.taking_back.BackWords.{BackWords}

module _ {Stdout Stderr : Type 0} (out : Stdout → Option (List ℕ)) (err : Stderr → Option (List ℕ)) where
  -- Standard output has what would be taken back: by the manager that a revert of this text is made of. A text of none is refused.
  abbrev pub ForetellsOn : (json : Bool) → (text : List ℕ) → (old new : Console Stdout Stderr) → ℕ → Type 0
  ForetellsOn json text old new result =
      ((manager : Manager) × IsManagerOf text manager × RunEnds out err (SaysOn Output Success) old new result)
      ⊎ ((why : Unfit) × IsUnfit why text × RunEnds out err (SaysOn (stream_for json) RefusedFile) old new result)

  -- so ends what is told of a file
  abbrev pub ForetellsOf : (json : Bool) → Readings → (word : List ℕ) → (old new : Console Stdout Stderr) → ℕ → Type 0
  ForetellsOf json gives word old new result =
      ((text : List ℕ) × gives word (Ok text) × ForetellsOn json text old new result) ⊎ RunEnds out err (SaysUnreadOn json gives word) old new result

module _ {Files Stdout Stderr : Type 0} (out : Stdout → Option (List ℕ)) (err : Stderr → Option (List ℕ)) (read : texts.Ghosts Files) (files : written.Ghosts Files) where
  -- with the option it is told what would be taken back, and no file changes; without it, that is taken back
  abbrev pub BackEndsOf : (word : List ℕ) → BackWords → (before after : Files) → (old new : Console Stdout Stderr) → ℕ → Type 0
  BackEndsOf word words before after old new result =
      ((words.preview ≡ true) × (after ≡ before) × ForetellsOf out err words.revert.json (read.gives before) word old new result)
      ⊎ ((words.preview ≡ false) × RevertEndsOf out err read files word words.revert before after old new result)
