-- That every play keeps its promise, and is one of the statement's. This is no part of the statement.
use Rattle.std.specs.Prelude.{ℕ, List, [], length}
use Rattle.record_base.specs.declared.op.Op.{Op}
use Rattle.cfg_records.specs.declared.board_file.BoardFile.{BoardFile}
use Rattle.text_lines.specs.declared.event.Event.{Event}
use Rattle.model_lab.specs.Played.{Ending, IsPlayed}
use Rattle.model_headline.specs.Plays.{taken_by, told_by, AllKeepPremise, lab_after}
use Rattle.model_headline.specs.Promise.{Promise}
use Rattle.model_headline.specs.Stated.{IsStated}

-- where no event that was taken broke the premise on packets
abbrev pub KeepsPromise : BoardFile → List Op → (retries : ℕ) → Type 0
KeepsPromise file plan retries = (events : List Event) (ending : Ending) → IsPlayed file plan retries events ending
    → AllKeepPremise file (taken_by events ending) (lab_after file plan retries []) → Promise file plan (taken_by events ending) (told_by ending)

-- and what it tells is what the statement's lab has then
abbrev pub PlaysAreStated : BoardFile → List Op → (retries : ℕ) → Type 0
PlaysAreStated file plan retries = (events : List Event) (ending : Ending) → IsPlayed file plan retries events ending
    → AllKeepPremise file (taken_by events ending) (lab_after file plan retries []) → IsStated file plan retries (length (taken_by events ending)) (told_by ending)
