-- How the journal of a manager is kept in its file.
use Rattle.std.specs.Prelude.{◌≡◌, ◌≢◌, ◌⊎◌, ℕ, List, [], ◌∷◌, Bool, true, false, not, Result, Ok, Err, IsSome, None}
use Rattle.undo_plans.specs.declared.names.Names.{Names}
use Rattle.undo_plans.specs.declared.kept_stage.KeptStage.{KeptStage}
use Rattle.undo_plans.specs.declared.kept_stage.KeptStage.TheVariants.{Open}
use Rattle.undo_plans.specs.declared.kept_stage.KeptTask.TheVariants.{Set}
use Rattle.text_journal.specs.JournalText.{IsTextOf}
use Rattle.text_journal.specs.Written.{text_of}
use Rattle.model_undo.specs.Machine as machine
use Rattle.model_lab.specs.ManagerSteps.{ManagerState, board_plans}
use Rattle.undo_core.specs.declared.manager.Manager.{Manager}
use Rattle.undo_core.specs.Journals.{kept_by}
use Rattle.undo_core.specs.Shown.{Represents, words_of}
use Rattle.bmc_ports.specs.Observing.{Look}
use Rattle.app_journal.specs.declared.files.WriteFault.{WriteFault}
use Rattle.app_journal.specs.declared.undo_files.UndoFiles.{UndoFiles}
use Rattle.app_journal.specs.Beside.{Writings, Renamings, Change, PutsPart}

-- a request is open at the stage
abbrev pub has_open : KeptStage → Bool
has_open (Open task part) = true
has_open _ = false

-- the text is that of the manager's journal, and stands for it
pub record IsJournalText (text : List ℕ) (manager : Manager) : Type 0 where
  pub written : text ≡ text_of (kept_by manager)
  pub stands : IsTextOf text (kept_by manager)

-- without its journal being kept a manager may go on only where it sends nothing: no request of it is open
abbrev pub may_unkept : Manager → Bool
may_unkept manager = not (has_open (kept_by manager).stage)

module _ {Files : Type 0} (takes : Writings Files) (renames : Renamings Files) (beside : UndoFiles) where
  -- the journal's file gets the text
  abbrev pub PutsJournal : (text : List ℕ) → Change Files
  PutsJournal text = PutsPart takes renames beside text

  -- ---- the text is put where the file has another

  -- the file has the text: nothing is done
  pub record HasText (text had has : List ℕ) (answer : Result (Unit {0}) WriteFault) (old new : Files) : Type 0 where
    pub is : had ≡ text
    pub stays : has ≡ had
    pub same : new ≡ old
    pub is_ok : answer ≡ Ok tt

  -- it has another, and is given the text
  pub record GetsText (text had has : List ℕ) (answer : Result (Unit {0}) WriteFault) (old new : Files) : Type 0 where
    pub other : had ≢ text
    pub becomes : has ≡ text
    pub put : PutsJournal text old (Ok tt) new
    pub is_ok : answer ≡ Ok tt

  -- it has another, and can't be given the text: the last that was put stays known
  pub record LacksText (text had has : List ℕ) (answer : Result (Unit {0}) WriteFault) (old new : Files) : Type 0 where
    pub why : WriteFault
    pub other : had ≢ text
    pub stays : has ≡ had
    pub put : PutsJournal text old (Err why) new
    pub is_fault : answer ≡ Err why

  abbrev pub PutsWhereOther : (text : List ℕ) → Result (Unit {0}) WriteFault → (had has : List ℕ) → (old new : Files) → Type 0
  PutsWhereOther text answer had has old new =
      HasText text had has answer old new ⊎ (GetsText text had has answer old new ⊎ LacksText text had has answer old new)

  -- ---- a look at a manager

  -- the file had the manager's journal, or was given it: frames may go out
  pub record IsKept (manager : Manager) (allowed : Bool) (had has : List ℕ) (old new : Files) : Type 0 where
    pub text : List ℕ
    pub is : IsJournalText text manager
    pub puts : PutsWhereOther text (Ok tt) had has old new
    pub may : allowed ≡ true

  -- it couldn't be given it
  pub record IsUnkept (manager : Manager) (allowed : Bool) (had has : List ℕ) (old new : Files) : Type 0 where
    pub text : List ℕ
    pub is : IsJournalText text manager
    pub why : WriteFault
    pub puts : PutsWhereOther text (Err why) had has old new
    pub may : allowed ≡ may_unkept manager

  -- memory for the text was refused: nothing is done
  pub record IsUnwritten (manager : Manager) (allowed : Bool) (had has : List ℕ) (old new : Files) : Type 0 where
    pub stays : has ≡ had
    pub same : new ≡ old
    pub may : allowed ≡ may_unkept manager

  -- A look at a manager: whether its frames may go out, the texts that the file had and has, as far as puts were answered Ok, and the files.
  abbrev pub KeepsJournal : Manager → (allowed : Bool) → (had has : List ℕ) → (old new : Files) → Type 0
  KeepsJournal manager allowed had has old new =
      IsKept manager allowed had has old new ⊎ (IsUnkept manager allowed had has old new ⊎ IsUnwritten manager allowed had has old new)

  -- looks at a manager, one after another: the journal is kept at each
  abbrev pub KeepsLooks : List Look → (had has : List ℕ) → (old new : Files) → Type 0
  KeepsLooks [] had has old new = (has ≡ had) × (new ≡ old)
  KeepsLooks (look ∷ later) had has old new =
      (text : List ℕ) × (mid : Files) × KeepsJournal look.manager look.allowed had text old mid × KeepsLooks later text has mid new

  -- the file has the manager's journal: it had it, and nothing was done, or was given it
  pub record HasJournal (manager : Manager) (had has : List ℕ) (old new : Files) : Type 0 where
    pub is : IsJournalText has manager
    pub from : ((had ≡ has) × (new ≡ old)) ⊎ PutsJournal has old (Ok tt) new

-- ---- laws

-- where the frames of an open request may go out, the file has the journal of the manager that gave them
abbrev pub AllowedIsKept : {Files : Type 0} → Writings Files → Renamings Files → Type 0
AllowedIsKept {Files} takes renames = (beside : UndoFiles) (manager : Manager) (had has : List ℕ) (old new : Files)
    → KeepsJournal takes renames beside manager true had has old new → has_open (kept_by manager).stage ≡ true → HasJournal takes renames beside manager had has old new

-- while a Set is open the journal has the request that undoes it
abbrev pub OpenSetIsTakenBack : Type 0
OpenSetIsTakenBack = (manager : Manager) (step part : ℕ) → (kept_by manager).stage ≡ Open (Set step) part → IsSome (kept_by manager).waiting

-- a manager of which the journal has no open request has none, so it sends nothing
abbrev pub ClosedIsSilent : Type 0
ClosedIsSilent = (manager : Manager) (names : Names) (state : ManagerState (board_plans names)) → Represents names manager state
    → has_open (kept_by manager).stage ≡ false → machine.open_bus (words_of names) state.machine ≡ None
