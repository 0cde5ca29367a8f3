-- The file of an undo text, and those beside it.
use Rattle.std.specs.Prelude.{◌≡◌, ◌≢◌, ◌⊎◌, ℕ, List, ◌++◌, true, false, Result, Ok, Err, String, codes, string_bytes}
use Rattle.std.specs.declared.alloc.Global.{Global}
use Rattle.app_journal.specs.declared.files.WriteFault.{WriteFault}
use Rattle.app_journal.specs.declared.files.HoldFault.{HoldFault}
use Rattle.app_journal.specs.declared.files.WritesFiles.{Ghosts}
use Rattle.app_journal.specs.declared.undo_files.UndoFiles.{UndoFiles}

-- what a writing of a text to the file that a word names may answer, and what it may leave of the files
abbrev pub Writings : Type 0 → Type 1
Writings Files = Files → (word text : List ℕ) → Result (Unit {0}) WriteFault → Files → Type 0

-- the same of a renaming, from one word to another
abbrev pub Renamings : Type 0 → Type 1
Renamings Files = Files → (from to : List ℕ) → Result (Unit {0}) WriteFault → Files → Type 0

-- of a removal
abbrev pub Removals : Type 0 → Type 1
Removals Files = Files → (word : List ℕ) → Result (Unit {0}) WriteFault → Files → Type 0

-- and of a hold
abbrev pub Holds : Type 0 → Type 1
Holds Files = Files → (word : List ℕ) → Result (Unit {0}) HoldFault → Files → Type 0

-- what something may make of files, and answer
abbrev pub Change : Type 0 → Type 1
Change Files = Files → Result (Unit {0}) WriteFault → Files → Type 0

-- one change, and behind it another where the first was made
abbrev pub InSequence : {Files : Type 0} → (first second : Change Files) → Change Files
InSequence first second old answer new =
    ((mid : _) × first old (Ok tt) mid × second mid answer new)
    ⊎ ((why : WriteFault) × (answer ≡ Err why) × first old (Err why) new)

-- The file of the second word gets the text, by its name alone: that of the first is written, and renamed to it.
abbrev pub PutsText : {Files : Type 0} → Writings Files → Renamings Files → (next named text : List ℕ) → Change Files
PutsText takes renames next named text = InSequence (λ old. takes old next text) (λ old. renames old next named)

-- ---- the words

-- the file that has the journal
abbrev pub part_of : (word : List ℕ) → List ℕ
part_of word = word ++ codes ".part"

-- the file that is written first
abbrev pub next_of : (word : List ℕ) → List ℕ
next_of word = word ++ codes ".next"

-- the word without `.part` at its end
abbrev pub IsStem : (word stem : List ℕ) → Type 0
IsStem word stem = (word ≡ part_of stem) ⊎ (((other : List ℕ) → word ≢ part_of other) × (stem ≡ word))

-- the file that a process holds: a journal has that of the undo text which it lies beside
abbrev pub IsLock : (word : List ℕ) → (lock : String Global) → Type 0
IsLock word lock = (stem : List ℕ) × IsStem word stem × (string_bytes lock ≡ stem ++ codes ".lock")

-- the words are that of the file, and those of the files beside it
pub record IsBeside (word : List ℕ) (beside : UndoFiles) : Type 0 where
  pub undo : string_bytes beside.undo ≡ word
  pub part : string_bytes beside.part ≡ part_of word
  pub next : string_bytes beside.next ≡ next_of word
  pub lock : IsLock word beside.lock
  pub files : beside.is_stream ≡ false

-- the same of a file that has a journal itself
pub record IsOwn (word : List ℕ) (beside : UndoFiles) : Type 0 where
  pub undo : string_bytes beside.undo ≡ word
  pub part : string_bytes beside.part ≡ word
  pub next : string_bytes beside.next ≡ next_of word
  pub lock : IsLock word beside.lock
  pub files : beside.is_stream ≡ false

-- of a FIFO or a device there is the word alone
pub record IsStream (word : List ℕ) (beside : UndoFiles) : Type 0 where
  pub undo : string_bytes beside.undo ≡ word
  pub stream : beside.is_stream ≡ true

-- ---- what is done with the files

-- this is done where there are files beside it, and of a FIFO or a device nothing
abbrev pub WhereFiles : {Files : Type 0} → UndoFiles → Change Files → Change Files
WhereFiles beside change old answer new =
    ((beside.is_stream ≡ false) × change old answer new) ⊎ ((beside.is_stream ≡ true) × (answer ≡ Ok tt) × (new ≡ old))

-- the journal's file gets the text, by its name alone
abbrev pub PutsPart : {Files : Type 0} → Writings Files → Renamings Files → UndoFiles → (text : List ℕ) → Change Files
PutsPart takes renames beside text = WhereFiles beside (PutsText takes renames (string_bytes beside.next) (string_bytes beside.part) text)

-- the file of the undo text gets the text, by its name alone; or the FIFO or the device does
abbrev pub GivesUndo : {Files : Type 0} → Ghosts Files → UndoFiles → (text : List ℕ) → Change Files
GivesUndo files beside text old answer new =
    ((beside.is_stream ≡ false) × PutsText files.takes files.renames (string_bytes beside.next) (string_bytes beside.undo) text old answer new)
    ⊎ ((beside.is_stream ≡ true) × files.pours old (string_bytes beside.undo) text answer new)

-- the journal's file is removed
abbrev pub RemovesPart : {Files : Type 0} → Removals Files → UndoFiles → Change Files
RemovesPart removes beside = WhereFiles beside (λ old. removes old (string_bytes beside.part))
