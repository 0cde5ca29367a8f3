-- What a play tells, in the statement's words. This is no part of the statement: it says how a play hangs on it.
use Rattle.std.specs.Prelude.{◌≡◌, ℕ, true, false, List, length}
use Rattle.record_base.specs.declared.op.Op.{Op}
use Rattle.cfg_records.specs.declared.board_file.BoardFile.{BoardFile}
use Rattle.model_undo.specs.declared.phase.Why.{Why as ToldWhy}
use Rattle.model_undo.specs.declared.phase.Why.TheVariants as told_why
use Rattle.model_undo.specs.declared.phase.Phase.{Phase as ToldPhase}
use Rattle.model_undo.specs.declared.phase.Phase.TheVariants as told_phase
use Rattle.model_lab.specs.Meaning.{lab_names}
use Rattle.model_lab.specs.Played.{Told}
use Rattle.model_headline.specs.Manager.{Why, Stop, GetRefused, Refused, NotRestorable, Gets, Sets, Undoes, Phase, Fresh, Open, Done, Halted, Undone, UndoRefused}
use Rattle.model_headline.specs.Lab.{Event}
use Rattle.model_headline.specs.Claim.{ours, AllHonest, first, after}

-- why a plan halted, as a play tells it
abbrev pub why_told : Why → ToldWhy
why_told Stop = told_why.Stop
why_told (GetRefused code) = told_why.GetRefused code
why_told (Refused code) = told_why.Refused code
why_told NotRestorable = told_why.NotRestorable

-- a phase, as a play tells it: by the task whose request is open and heeded
abbrev pub phase_told : Phase → ToldPhase
phase_told Fresh = told_phase.Fresh
phase_told (Open true (Gets step op) bodies) = told_phase.Getting step
phase_told (Open true (Sets step op back) bodies) = told_phase.Setting step
phase_told (Open true (Undoes back rest) bodies) = told_phase.Undoing (length rest)
phase_told (Open false (Gets step op) bodies) = told_phase.Unsettled step
phase_told (Open false (Sets step op back) bodies) = told_phase.Unsettled step
phase_told (Open false (Undoes back rest) bodies) = told_phase.Unsettled (length rest)
phase_told Done = told_phase.Done
phase_told (Halted steps why) = told_phase.Halted steps (why_told why)
phase_told Undone = told_phase.Undone
phase_told (UndoRefused steps code) = told_phase.UndoRefused steps code

-- What a play of so many events told is what the statement's lab has after as many events of its own, each of which is honest there.
pub record IsStated (file : BoardFile) (plan : List Op) (retries count : ℕ) (told : Told) : Type 0 where
  pub events : List Event
  pub count_is : length events ≡ count
  pub honest : AllHonest (ours file) lab_names events (first file (ours file) lab_names plan retries)
  pub start : told.start ≡ (first file (ours file) lab_names plan retries).board.records
  pub records : told.records ≡ (after file (ours file) lab_names plan retries events).board.records
  pub phase : told.phase ≡ phase_told (after file (ours file) lab_names plan retries events).manager.phase
