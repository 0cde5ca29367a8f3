-- What comes of taking back, and what it leaves of FILE.
use Rattle.std.specs.Prelude.{String, ◌≡◌, ◌⊎◌, ◌++◌, ◌||◌, ℕ, suc, List, [], Bool, true, false, None, Some, Option, Result, Ok, Err, codes, is_none, map, take, string_bytes}
use Rattle.std.specs.declared.alloc.Global.{Global}
use Rattle.std.specs.declared.alloc.AllocError.{AllocError}
use Rattle.two_wire.specs.declared.Bus.{Bus}
use Rattle.two_wire.specs.declared.Bus.TheVariants.{Ipmb, Smbus}
use Rattle.record_base.specs.declared.message.Asked.{Asked}
use Rattle.undo_plans.specs.declared.undo_list.UndoList.{UndoList}
use Rattle.text_lines.specs.UndoText.{IsTextOf, IsFirstBad, text_of}
use Rattle.bmc_core.specs.Wires.{bus_of}
use Rattle.model_undo.specs.Machine.{open_bus}
use Rattle.model_lab.specs.Meaning.{lab_names}
use Rattle.model_undo.specs.declared.call.Call.TheVariants.{Undo, Again}
use Rattle.model_undo.specs.declared.phase.Phase.{Phase}
use Rattle.model_undo.specs.declared.phase.Phase.TheVariants.{Undone, UndoRefused}
use Rattle.undo_core.specs.declared.manager.Manager.{Manager}
use Rattle.undo_core.specs.Shown.{AreOthers, Represents, words_of}
use Rattle.app_base.specs.declared.console.Console.{Console}
use Rattle.app_base.specs.declared.files.TextFiles as texts
use Rattle.app_base.specs.declared.status.Status.TheVariants.{RefusedWords, RefusedFile}
use Rattle.app_base.specs.Ending.{RunEnds}
use Rattle.app_journal.specs.declared.files.WriteFault.{WriteFault}
use Rattle.app_journal.specs.declared.files.WritesFiles as written
use Rattle.app_journal.specs.declared.undo_files.UndoFiles.{UndoFiles}
use Rattle.app_journal.specs.Beside.{GivesUndo, IsOwn}
use Rattle.app_journal.specs.Claiming.{IsFreeAt}
use Rattle.app_journal.specs.Keeping.{IsJournalText, PutsJournal}
use Rattle.undo_core.specs.Journals.{kept_by}
use Rattle.app_journal.specs.Reviving.{IsFault, IsMadeOf}
use Rattle.app_journal.specs.Standing.{IsStanding}
use Rattle.undo_plans.specs.declared.kept_stage.KeptStage.{KeptStage}
use Rattle.undo_plans.specs.declared.kept_stage.KeptStage.TheVariants as stage
use Rattle.text_lines.specs.declared.undo_text.UndoFault.{UndoFault}
use Rattle.text_lines.specs.declared.undo_text.UndoFault.TheVariants as unread
use Rattle.app_journal.specs.declared.reviving.ReviveFault.{ReviveFault}
use Rattle.app_journal.specs.declared.reviving.ReviveFault.TheVariants as fault
use Rattle.app_journal.specs.declared.standing.Standing.{Standing}
use Rattle.app_run.specs.declared.greeting.Greetings.{Greetings}
use Rattle.app_run.specs.declared.greeting.Unanswered.{Unanswered}
use Rattle.app_run.specs.Buses.{is_used}
use Rattle.app_run.specs.Driven.{DriveEnd, DrivenState, HasList, is_over, resumed_from}
use Rattle.app_run.specs.Ends.{PrintsNothing}
use Rattle.app_run.specs.JournalUndo.{IsJournal}
use Rattle.app_run.specs.Greeted.{AreGreeted, greetings_before_undo}
use Rattle.app_run.specs.Reverting.{settles_none}
use Rattle.report_words.specs.declared.table_names.Names.{Names}
use Rattle.app_apply.specs.declared.outcome.Outcome.{Outcome}
use Rattle.app_apply.specs.declared.outcome.Outcome.TheVariants.{Empty, Unmade, Unkept, Ungreeted, NoLink, Ended}
use Rattle.app_apply.specs.declared.kept_calls.Reach.{Reach}
use Rattle.app_revert.specs.declared.looking.Looked.{Looked}
use Rattle.app_revert.specs.declared.reverting.RevertWords.{RevertWords}
use Rattle.app_revert.specs.declared.reverting.Reverted.{Reverted}
use Rattle.app_revert.specs.declared.reading.Unfit.{Unfit}
use Rattle.app_revert.specs.declared.reading.Unfit.TheVariants as unfit
use Rattle.app_apply.specs.Ends.{SaysOn, SaysUnreadOn, stream_for}
use Rattle.app_apply.specs.Guard.{HoldsOwn, PutsOwnAside, is_nothing}
use Rattle.app_apply.specs.Kept.{KeepsWay, most_turns}
use Rattle.app_revert.specs.Looks.{LooksBehind, TellsNothing, doubts}
use Rattle.app_revert.specs.Names.{HasNoName}
use Rattle.app_revert.specs.Statuses.{status_behind}

-- all that was done was taken back
abbrev pub is_undone : KeptStage → Bool
is_undone stage.Undone = true
is_undone _ = false

-- the phase of a manager that came to an end, and whose journal was kept
abbrev pub kept_phase : Outcome → Option Phase
kept_phase (Ended phase (Ok done)) = Some phase
kept_phase _ = None

-- the end of a call, as it is told
abbrev pub IsEnd : DriveEnd → Outcome → Type 0
IsEnd (Ok phase) came = came ≡ Ended phase (Ok tt)
IsEnd (Err kept) came = came ≡ Unkept

-- the list without a request
abbrev pub IsEmptied : (list empty : UndoList) → Type 0
IsEmptied list empty = (empty.requests.members ≡ []) × (empty.next ≡ list.next) × (empty.names ≡ list.names)

-- the word of FILE`.done`
abbrev pub done_of : UndoFiles → List ℕ
done_of beside = string_bytes beside.undo ++ codes ".done"

-- its first requests, so many
abbrev pub IsFirstOf : (list : UndoList) → (count : ℕ) → (rest : UndoList) → Type 0
IsFirstOf list count rest = (rest.requests.members ≡ take count list.requests.members) × (rest.next ≡ list.next) × (rest.names ≡ list.names)

-- The word names no file; or its file was put aside, which may fail. Or memory was refused before.
abbrev pub MakesRoom : {Files Refused : Type 0} → written.Ghosts Files → (word : List ℕ) → Result (Result (Unit {0}) WriteFault) Refused → (old new : Files) → Type 0
MakesRoom {Files} {Refused} files word (Ok (Ok done)) old new =
    (IsFreeAt (files.leads old) word true × (new ≡ old))
    ⊎ (IsFreeAt (files.leads old) word false × (name : String Global) × PutsOwnAside {Refused = Refused} files word (Ok (Some name)) old new)
MakesRoom {Files} {Refused} files word (Ok (Err why)) old new = IsFreeAt (files.leads old) word false × PutsOwnAside {Refused = Refused} files word (Ok None) old new
MakesRoom files word (Err refused) old new = new ≡ old

module _ {Files : Type 0} (files : written.Ghosts Files) (beside : UndoFiles) where
  -- what became of a manager, what came of that, the text that FILE had and has, and the files
  abbrev pub Reverting : Type 1
  Reverting = (before after : Manager) → Outcome → (had has : List ℕ) → (old new : Files) → Type 0

  -- this came of it, and nothing is done
  abbrev pub StaysWith : Outcome → Reverting
  StaysWith outcome before after came had has old new = (came ≡ outcome) × (after ≡ before) × (has ≡ had) × (new ≡ old)

  -- a manager was told to undo, while its journal was kept; or no link could be had
  abbrev pub MayUndo : (agains : ℕ) → Reverting
  MayUndo agains before after came had has old new =
      ((end : DriveEnd) × KeepsWay files.takes files.renames beside agains Undo before after end had has old new × IsEnd end came)
      ⊎ StaysWith NoLink before after came had has old new

  -- it was, once each greeting was answered. Or one wasn't, or no link could be had.
  abbrev pub UndoesGreeted : Greetings → (agains : ℕ) → Reverting
  UndoesGreeted greetings agains before after came had has old new =
      (AreGreeted greetings most_turns None × MayUndo agains before after came had has old new)
      ⊎ (((why : Unanswered) × AreGreeted greetings most_turns (Some why) × StaysWith (Ungreeted why) before after came had has old new)
      ⊎ StaysWith NoLink before after came had has old new)

  -- A manager whose plan is over was told to undo, where it is to be greeted once each bus that its list uses was greeted for the next numbers.
  abbrev pub UndoesOver : (greet : Bool) → (agains : ℕ) → Reverting
  UndoesOver greet agains before after came had has old new =
      (list : UndoList) × HasList before list × UndoesGreeted (greetings_before_undo greet list) agains before after came had has old new

  -- its open request was settled to this end: it is told to undo only where its plan is over then
  abbrev pub GoesOn : (greet : Bool) → (agains : ℕ) → DriveEnd → Reverting
  GoesOn greet agains (Ok phase) before after came had has old new =
      ((is_over phase ≡ true) × UndoesOver greet agains before after came had has old new)
      ⊎ ((is_over phase ≡ false) × StaysWith (Ended phase (Ok tt)) before after came had has old new)
  GoesOn greet agains (Err kept) before after came had has old new = StaysWith Unkept before after came had has old new

  -- A manager's open request is settled, where it has one, and it goes on; or no link could be had. Where it had one the controller isn't greeted: it
  -- would forget what it answered, and carry out a late copy of that.
  abbrev pub TakesBack : (agains : ℕ) → Reverting
  TakesBack agains before after came had has old new =
      ((settled : Manager) × (end : DriveEnd) × (text : List ℕ) × (mid : Files)
      × KeepsWay files.takes files.renames beside agains Again before settled end had text old mid
      × GoesOn (settles_none before) agains end settled after came text has mid new)
      ⊎ StaysWith NoLink before after came had has old new

  -- the same, whatever text FILE has then
  abbrev pub TakesBackFrom : (agains : ℕ) → (before after : Manager) → Outcome → (had : List ℕ) → (old new : Files) → Type 0
  TakesBackFrom agains before after came had old new = (has : List ℕ) × TakesBack agains before after came had has old new

  -- ---- what is left

  -- FILE`.done` gets the text. One that is there is put aside first, and where that can't be, nothing is written.
  abbrev pub PutsDone : {Refused : Type 0} → (text : List ℕ) → Result (Result (Unit {0}) WriteFault) Refused → (old new : Files) → Type 0
  PutsDone {Refused} text (Ok answer) old new =
      (done : UndoFiles) × IsOwn (done_of beside) done
      × (((mid : Files) × MakesRoom {Refused = Refused} files (string_bytes done.undo) (Ok (Ok tt)) old mid × PutsJournal files.takes files.renames done text mid answer new)
      ⊎ ((why : WriteFault) × MakesRoom {Refused = Refused} files (string_bytes done.undo) (Ok (Err why)) old new × (answer ≡ Err why)))
  PutsDone text (Err refused) old new = new ≡ old

  -- FILE`.done` has what was taken back before FILE gets the empty list
  abbrev pub LeavesUndone : {Refused : Type 0} → UndoList → Result (Result (Unit {0}) WriteFault) Refused → (old new : Files) → Type 0
  LeavesUndone {Refused} list (Ok answer) old new =
      ((empty : UndoList) × (mid : Files) × IsEmptied list empty × PutsDone {Refused = Refused} (text_of list) (Ok (Ok tt)) old mid × GivesUndo files beside (text_of empty) mid answer new)
      ⊎ ((why : WriteFault) × PutsDone {Refused = Refused} (text_of list) (Ok (Err why)) old new × (answer ≡ Err why))
  LeavesUndone {Refused} list (Err refused) old new = (new ≡ old) ⊎ PutsDone {Refused = Refused} (text_of list) (Ok (Ok tt)) old new

  -- FILE gets the requests up to the one that was refused
  abbrev pub LeavesRefused : {Refused : Type 0} → UndoList → (place : ℕ) → Result (Result (Unit {0}) WriteFault) Refused → (old new : Files) → Type 0
  LeavesRefused list place (Ok answer) old new = (rest : UndoList) × IsFirstOf list (suc place) rest × GivesUndo files beside (text_of rest) old answer new
  LeavesRefused list place (Err refused) old new = new ≡ old

  -- so FILE is left, once the manager is in this phase
  abbrev pub Leaves : {Refused : Type 0} → Manager → Phase → Result (Result (Unit {0}) WriteFault) Refused → (old new : Files) → Type 0
  Leaves manager Undone came old new = (list : UndoList) × HasList manager list × LeavesUndone list came old new
  Leaves manager (UndoRefused place code) came old new = (list : UndoList) × HasList manager list × LeavesRefused list place came old new
  Leaves manager phase came old new = (came ≡ Ok (Ok tt)) × (new ≡ old)

  -- ---- the whole way

  -- FILE is left as it is to be, once the manager is in this phase and its journal was kept; memory may be refused for that
  abbrev pub LeavesIn : {Refused : Type 0} → Manager → Phase → Result Outcome Refused → (old new : Files) → Type 0
  LeavesIn {Refused} after phase (Ok came) old new =
      (kept : Result (Unit {0}) WriteFault) × Leaves {Refused = Refused} after phase (Ok kept) old new × (came ≡ Ended phase kept)
  LeavesIn {Refused} after phase (Err refused) old new = Leaves {Refused = Refused} after phase (Err refused) old new

  -- and where it came to no end, or its journal couldn't be kept, as it is
  abbrev pub LeavesWith : {Refused : Type 0} → Manager → Option Phase → Outcome → Result Outcome Refused → (old new : Files) → Type 0
  LeavesWith after (Some phase) outcome came old new = LeavesIn after phase came old new
  LeavesWith after None outcome came old new = (came ≡ Ok outcome) × (new ≡ old)

  abbrev pub LeavesBehind : {Refused : Type 0} → Manager → Outcome → Result Outcome Refused → (old new : Files) → Type 0
  LeavesBehind after outcome came old new = LeavesWith after (kept_phase outcome) outcome came old new

  -- a manager takes back what it did, and FILE is left so
  abbrev pub Reverts : {Refused : Type 0} → (agains : ℕ) → (before after : Manager) → (had : List ℕ) → Result Outcome Refused → (old new : Files) → Type 0
  Reverts agains before after had came old new =
      (outcome : Outcome) × (mid : Files) × TakesBackFrom agains before after outcome had old mid × LeavesBehind after outcome came mid new

  -- FILE gets the manager's journal first. Where it can't, nothing is sent. Or memory is refused for that, and nothing is done.
  abbrev pub RevertsMade : {Refused : Type 0} → (agains : ℕ) → (before after : Manager) → Result Outcome Refused → (old new : Files) → Type 0
  RevertsMade {Refused} agains before after came old new =
      ((text : List ℕ) × (made : Files) × IsJournalText text before × PutsJournal files.takes files.renames beside text old (Ok tt) made × Reverts agains before after text came made new)
      ⊎ (((text : List ℕ) × (why : WriteFault) × IsJournalText text before × PutsJournal files.takes files.renames beside text old (Err why) new × (came ≡ Ok Unmade) × (after ≡ before))
      ⊎ ((refused : Refused) × (came ≡ Err refused) × (after ≡ before) × (new ≡ old)))

  -- A manager of which all was taken back leaves FILE as it is to be, and one that has nothing to take back does nothing: neither sends. Any other
  -- takes back what it did.
  abbrev pub RevertEnd : {Refused : Type 0} → (agains : ℕ) → Standing → (before after : Manager) → Result Outcome Refused → (old new : Files) → Type 0
  RevertEnd {Refused} agains standing before after came old new =
      ((is_undone (kept_by before).stage ≡ true) × LeavesIn after Undone came old new × (after ≡ before))
      ⊎ ((is_undone (kept_by before).stage ≡ false)
      × (((is_nothing standing ≡ true) × (came ≡ Ok Empty) × (after ≡ before) × (new ≡ old))
      ⊎ ((is_nothing standing ≡ false) × RevertsMade agains before after came old new)))

-- Once all is taken back, each record of the manager's list was looked at, and that of the step that was in doubt, and behind that so the names were
-- read. Else none was looked at, and no name is known.
abbrev pub Looks : (agains : ℕ) → (after : Manager) → (doubt : List Asked) → Outcome → Looked → Result Names AllocError → Type 0
Looks agains after doubt (Ended Undone (Ok done)) looked names =
    (list : UndoList) × HasList after list × LooksBehind agains list doubt looked names
Looks agains after doubt came looked names = TellsNothing looked × HasNoName names

-- this came of a manager, and so the looks behind it, and the names behind these
abbrev pub IsReverted : (agains : ℕ) → (after : Manager) → (doubt : List Asked) → Outcome → Reverted → Type 0
IsReverted agains after doubt outcome reverted =
    (reverted.manager ≡ after) × (reverted.outcome ≡ outcome) × Looks agains after doubt outcome reverted.looked reverted.names

module _ {Files Refused : Type 0} (files : written.Ghosts Files) (beside : UndoFiles) where
  -- So a manager takes back what it did, of which FILE has this standing; behind that each record is looked at, and behind these looks names are
  -- read. Or memory is refused: before, on the way, or for a look.
  abbrev pub RevertCome : (agains : ℕ) → Standing → (before : Manager) → Result Reverted Refused → (old new : Files) → Type 0
  RevertCome agains standing before (Ok reverted) old new =
      RevertEnd files beside {Refused = Refused} agains standing before reverted.manager (Ok reverted.outcome) old new
      × Looks agains reverted.manager (doubts before) reverted.outcome reverted.looked reverted.names
  RevertCome agains standing before (Err refused) old new =
      (new ≡ old)
      ⊎ ((after : Manager) × (came : Result Outcome Refused) × RevertEnd files beside {Refused = Refused} agains standing before after came old new)

-- ---- what FILE says

-- the manager takes back what the text says: it is made of the journal that the text is, or goes on from the list of the undo text
abbrev pub IsManagerOf : (text : List ℕ) → Manager → Type 0
IsManagerOf text manager =
    (IsJournal text × IsMadeOf text manager)
    ⊎ ((¬ IsJournal text) × (list : UndoList) × IsTextOf text list × Represents lab_names manager (resumed_from list))

-- why a journal is unfit, and why an undo text is
abbrev pub unfit_journal : ReviveFault → Unfit
unfit_journal fault.Memory = unfit.Memory
unfit_journal (fault.Line line) = unfit.Line line
unfit_journal fault.Retries = unfit.Retries
unfit_journal fault.OtherNames = unfit.OtherNames

abbrev pub unfit_undo : UndoFault → Unfit
unfit_undo unread.Memory = unfit.Memory
unfit_undo (unread.Line line) = unfit.Line line

-- why none does
abbrev pub IsUnfit : Unfit → (text : List ℕ) → Type 0
IsUnfit unfit.Memory text = Unit {0}
IsUnfit (unfit.Line line) text = (IsJournal text × IsFault (fault.Line line) text) ⊎ ((¬ IsJournal text) × IsFirstBad text line)
IsUnfit unfit.Retries text = IsJournal text × IsFault fault.Retries text
IsUnfit unfit.OtherNames text =
    (IsJournal text × IsFault fault.OtherNames text)
    ⊎ ((¬ IsJournal text) × (list : UndoList) × IsTextOf text list × AreOthers lab_names list.names)

-- ---- a port that isn't known

-- the bus is SMBus
abbrev pub is_on_smbus : Option Bus → Bool
is_on_smbus (Some Smbus) = true
is_on_smbus (Some Ipmb) = false
is_on_smbus None = false

-- the manager's open request, or one of its list, goes on SMBus
abbrev pub NeedsSmbus : Manager → (needs : Bool) → Type 0
NeedsSmbus manager needs =
    (list : UndoList) × (open_on : Option Bus) × HasList manager list
    × ((state : DrivenState) → Represents lab_names manager state → open_on ≡ open_bus (words_of lab_names) state.machine)
    × (needs ≡ (is_on_smbus open_on || is_used Smbus (map bus_of list.requests.members)))

-- it does, and no port of that is known
abbrev pub LacksPort : Manager → Reach → (lacks : Bool) → Type 0
LacksPort manager reach lacks =
    ((is_none reach.smbus_port ≡ false) × (lacks ≡ false)) ⊎ ((is_none reach.smbus_port ≡ true) × NeedsSmbus manager lacks)

-- ---- how it ends

module _ {Files Stdout Stderr : Type 0} (out : Stdout → Option (List ℕ)) (err : Stderr → Option (List ℕ)) (read : texts.Ghosts Files) (files : written.Ghosts Files) where
  -- it is said what came of it, with its status; or memory was refused, and nothing is said
  abbrev pub EndsBy : (json : Bool) → Result Reverted AllocError → (old new : Console Stdout Stderr) → ℕ → Type 0
  EndsBy json (Ok reverted) old new result =
      RunEnds out err (SaysOn (stream_for json) (status_behind reverted.outcome reverted.looked.differs reverted.looked.unseen)) old new result
  EndsBy json (Err refused) old new result = RunEnds out err PrintsNothing old new result

  -- What the manager did is taken back. Where it needs a port that isn't known, that is said, and nothing is done.
  abbrev pub RevertEndsOver : UndoFiles → Standing → Manager → RevertWords → (before after : Files) → (old new : Console Stdout Stderr) → ℕ → Type 0
  RevertEndsOver beside standing manager words before after old new result =
      (LacksPort manager words.reach true × (after ≡ before) × RunEnds out err (SaysOn (stream_for words.json) RefusedWords) old new result)
      ⊎ (LacksPort manager words.reach false
      × (came : Result Reverted AllocError) × RevertCome files beside words.reach.again standing manager came before after × EndsBy words.json came old new result)

  -- so ends the revert of a text in FILE; one that is neither a journal nor an undo text is refused, and nothing is done
  abbrev pub RevertEndsOn : UndoFiles → (text : List ℕ) → RevertWords → (before after : Files) → (old new : Console Stdout Stderr) → ℕ → Type 0
  RevertEndsOn beside text words before after old new result =
      ((standing : Standing) × (manager : Manager) × IsStanding standing text × IsManagerOf text manager
      × RevertEndsOver beside standing manager words before after old new result)
      ⊎ ((after ≡ before) × (((why : Unfit) × IsUnfit why text × RunEnds out err (SaysOn (stream_for words.json) RefusedFile) old new result) ⊎ RunEnds out err PrintsNothing old new result))

  -- so ends that of FILE, which is held
  abbrev pub RevertEndsIn : UndoFiles → RevertWords → (before after : Files) → (old new : Console Stdout Stderr) → ℕ → Type 0
  RevertEndsIn beside words before after old new result =
      ((text : List ℕ) × read.gives before (string_bytes beside.undo) (Ok text) × RevertEndsOn beside text words before after old new result)
      ⊎ ((after ≡ before) × RunEnds out err (SaysUnreadOn words.json (read.gives before) (string_bytes beside.undo)) old new result)

  -- FILE is held first. Where it can't be held, that is said, and nothing else is done.
  abbrev pub RevertEndsOf : (word : List ℕ) → RevertWords → (before after : Files) → (old new : Console Stdout Stderr) → ℕ → Type 0
  RevertEndsOf word words before after old new result =
      ((beside : UndoFiles) × (held : Files) × HoldsOwn {Refused = AllocError} files word (Ok (Some beside)) before held × RevertEndsIn beside words held after old new result)
      ⊎ ((HoldsOwn {Refused = AllocError} files word (Ok None) before after × RunEnds out err (SaysOn (stream_for words.json) RefusedFile) old new result)
      ⊎ ((after ≡ before) × RunEnds out err PrintsNothing old new result))
