-- What a play promises of what it tells, whatever the board file, the plan and the schedule are, where it tells no event that broke the
-- premise on packets.
use Rattle.std.specs.Prelude.{◌≡◌, ◌⊎◌, ℕ, suc, List, ◌∷◌, ◌++◌, length, Some, None, slice_get}
use Rattle.record_base.specs.declared.op.Op.{Op}
use Rattle.record_base.specs.declared.message.Asked.{Asked}
use Rattle.record_base.specs.declared.message.Answered.{Answered}
use Rattle.cfg_records.specs.declared.board_file.BoardFile.{BoardFile}
use Rattle.cfg_records.specs.Records.{Records}
use Rattle.record_kinds.specs.Limits.{key_of, restorable}
use Rattle.record_kinds.specs.Series.{Reads, sends}
use Rattle.bmc_board.specs.State.{State}
use Rattle.bmc_board.specs.Decode.{sent_by}
use Rattle.bmc_board.specs.Answer.{answer_of}
use Rattle.undo_plans.specs.Showing.{shown_by}
use Rattle.model_undo.specs.declared.call.Call.TheVariants as call
use Rattle.text_lines.specs.declared.event.Event.{Event}
use Rattle.text_lines.specs.declared.event.Event.TheVariants.{Calls}
use Rattle.model_undo.specs.declared.phase.Why.{Why}
use Rattle.model_undo.specs.declared.phase.Why.TheVariants.{Stop, Refused, NotRestorable, GetRefused}
use Rattle.model_undo.specs.declared.phase.Phase.{Phase}
use Rattle.model_undo.specs.declared.phase.Phase.TheVariants.{Fresh, Getting, Setting, Done, Halted, Unsettled, Undoing, Undone, UndoRefused}
use Rattle.model_lab.specs.Played.{Told}
use Rattle.model_headline.specs.Claim.{IsAfter, AreGiven, IsRefused}

module _ (file : BoardFile) (plan : List Op) (start : Records) where
  -- what the phase says of the records: those after so many of the plan's steps, which count from 0
  abbrev pub PhaseMeans : Phase → Records → Type 0
  PhaseMeans Fresh now = now ≡ start
  PhaseMeans (Getting steps) now = IsAfter file plan start steps now
  PhaseMeans (Setting steps) now = IsAfter file plan start steps now ⊎ IsAfter file plan start (suc steps) now
  PhaseMeans Done now = IsAfter file plan start (length plan) now
  PhaseMeans (Halted steps why) now = IsAfter file plan start steps now
  PhaseMeans (Unsettled steps) now = IsAfter file plan start steps now ⊎ IsAfter file plan start (suc steps) now
  PhaseMeans (Undoing steps) now = IsAfter file plan start steps now ⊎ IsAfter file plan start (suc steps) now
  PhaseMeans Undone now = now ≡ start
  PhaseMeans (UndoRefused steps code) now = ⊥

  -- with the records after so many of the plan's first steps, the board answered the request so, whoever asked it
  pub record GaveAnswer (steps : ℕ) (asked : Asked) (answered : Answered) : Type 0 where
    pub before : State
    pub from : ℕ
    pub at : IsAfter file plan start steps before.records
    pub answers : (answer_of file before (sent_by from asked)).0 ≡ answered

  -- Why a plan halted after so many steps: the schedule has a call of `stop`; or the board refused a request of the step's Get or Set, after those
  -- before it; or it answered all of the step's Get with data from which the step can't be undone. A watchdog's step can't while its timer runs, and
  -- a part of a Set is refused where those before it aren't staged. Neither is configuration, and each answer may be of a state of its own: so of such
  -- steps this says little, and the second tier names that answer.
  abbrev pub IsWhy : List Event → ℕ → Why → Type 0
  IsWhy events steps Stop = (before : List Event) × (later : List Event) × (events ≡ before ++ Calls call.Stop ∷ later)
  IsWhy events steps (GetRefused code) = (op : Op) × (slice_get plan steps ≡ Some op) × IsRefused (GaveAnswer steps) (Reads (key_of op)) code
  IsWhy events steps (Refused code) = (op : Op) × (slice_get plan steps ≡ Some op) × IsRefused (GaveAnswer steps) (sends op) code
  IsWhy events steps NotRestorable = (op : Op) × (bodies : List (List ℕ)) × (slice_get plan steps ≡ Some op)
      × AreGiven (GaveAnswer steps) (Reads (key_of op)) bodies None × (¬ restorable op (shown_by (key_of op) bodies))

-- In each phase, that says what the records are. Where the plan is undone, every record is what it was at the start. Where it halted, there is
-- a reason.
pub record Promise (file : BoardFile) (plan : List Op) (events : List Event) (told : Told) : Type 0 where
  pub stands : PhaseMeans file plan told.start told.phase told.records
  pub undone : told.phase ≡ Undone → told.records ≡ told.start
  pub why : (steps : ℕ) (why : Why) → told.phase ≡ Halted steps why → IsWhy file plan told.start events steps why
