-- How FILE is taken for one process.
use Rattle.std.specs.Prelude.{String, ◌≡◌, ◌⊎◌, ℕ, List, Bool, true, false, Option, Some, None, Result, Ok, Err, string_bytes}
use Rattle.std.specs.declared.alloc.Global.{Global}
use Rattle.app_base.specs.declared.files.TextFiles as texts
use Rattle.app_base.specs.declared.files.UnreadFile.TheVariants.{NoText}
use Rattle.app_base.specs.Files.{Readings}
use Rattle.app_journal.specs.declared.files.HoldFault.{HoldFault}
use Rattle.app_journal.specs.declared.files.WriteFault.{WriteFault}
use Rattle.app_journal.specs.declared.files.Place.TheVariants.{Free, File, Stream}
use Rattle.app_journal.specs.declared.files.PlaceFault.TheVariants.{NoPlace}
use Rattle.app_journal.specs.declared.files.WritesFiles as written
use Rattle.app_journal.specs.declared.undo_files.UndoFiles.{UndoFiles}
use Rattle.app_journal.specs.declared.standing.Standing.{Standing}
use Rattle.app_journal.specs.declared.standing.Standing.TheVariants.{Nothing, NoJournal}
use Rattle.app_journal.specs.Beside.{IsOwn}
use Rattle.app_journal.specs.Claiming.{Places, IsFileAt, IsFirstFree}
use Rattle.app_journal.specs.Standing.{IsStanding}
use Rattle.app_apply.specs.declared.guarding.Guard.{Guard}
use Rattle.app_apply.specs.declared.guarding.Guard.TheVariants.{Taken, Held, Occupied}

-- ---- the hold

-- the word leads to this plain file, which is there or can be made; or to none
abbrev pub LeadsToOwn : Places → (word : List ℕ) → Option UndoFiles → Type 0
LeadsToOwn leads word (Some beside) = (path : List ℕ) × IsFileAt leads word path × IsOwn path beside
LeadsToOwn leads word None = leads word (Ok Stream) ⊎ leads word (Err NoPlace)

-- The file to which a word leads is held. Or it isn't, since the word leads to no plain file, or the hold failed. Or memory was refused before.
abbrev pub HoldsOwn : {Files Refused : Type 0} → written.Ghosts Files → (word : List ℕ) → Result (Option UndoFiles) Refused → (old new : Files) → Type 0
HoldsOwn files word (Ok (Some beside)) old new =
    LeadsToOwn (files.leads old) word (Some beside) × files.holds old (string_bytes beside.lock) (Ok tt) new
HoldsOwn files word (Ok None) old new =
    (LeadsToOwn (files.leads old) word None × (new ≡ old))
    ⊎ ((beside : UndoFiles) × (why : HoldFault) × LeadsToOwn (files.leads old) word (Some beside) × files.holds old (string_bytes beside.lock) (Err why) new)
HoldsOwn files word (Err refused) old new = new ≡ old

-- ---- what it has

-- what a plain file has: what its text says, or no journal where it can't be read
abbrev pub StandsWithin : Readings → (word : List ℕ) → Standing → Type 0
StandsWithin gives word standing =
    ((text : List ℕ) × gives word (Ok text) × IsStanding standing text) ⊎ (gives word (Err NoText) × (standing ≡ NoJournal))

-- where there is no file there is nothing, and what is no plain file has no journal
abbrev pub StandsOwn : Readings → Places → (word : List ℕ) → Standing → Type 0
StandsOwn gives leads word standing =
    ((found : String Global) × leads word (Ok (Free found)) × (standing ≡ Nothing))
    ⊎ (((found : String Global) × leads word (Ok (File found)) × StandsWithin gives word standing)
    ⊎ ((leads word (Ok Stream) ⊎ leads word (Err NoPlace)) × (standing ≡ NoJournal)))

-- ---- what is put aside

-- The file of the word gets the first free name. Or none is free, or the renaming failed. Or memory was refused before.
abbrev pub PutsOwnAside : {Files Refused : Type 0} → written.Ghosts Files → (word : List ℕ) → Result (Option (String Global)) Refused → (old new : Files) → Type 0
PutsOwnAside files word (Ok (Some name)) old new =
    IsFirstFree (files.leads old) word (Some name) × files.renames old word (string_bytes name) (Ok tt) new
PutsOwnAside files word (Ok None) old new =
    (IsFirstFree (files.leads old) word None × (new ≡ old))
    ⊎ ((name : String Global) × (why : WriteFault) × IsFirstFree (files.leads old) word (Some name) × files.renames old word (string_bytes name) (Err why) new)
PutsOwnAside files word (Err refused) old new = new ≡ old

-- ---- a file that is taken

-- there is nothing to take back
abbrev pub is_nothing : Standing → Bool
is_nothing Nothing = true
is_nothing _ = false

-- what comes of a file that was put aside, or couldn't be
abbrev pub placed_by : {Refused : Type 0} → UndoFiles → Standing → Result (Option (String Global)) Refused → Result Guard Refused
placed_by beside standing (Ok (Some name)) = Ok (Taken (record { beside = beside; aside = Some name }))
placed_by beside standing (Ok None) = Ok (Occupied standing)
placed_by beside standing (Err refused) = Err refused

-- FILE is held and has this: it may be written over where that is nothing; else it is left as it is, unless it is to be replaced, and is put aside.
abbrev pub GuardsHeld : {Files Refused : Type 0} → written.Ghosts Files → UndoFiles → Standing → (replace : Bool) → Result Guard Refused → (old new : Files) → Type 0
GuardsHeld {Files} {Refused} files beside standing replace came old new =
    ((is_nothing standing ≡ true) × (came ≡ Ok (Taken (record { beside = beside; aside = None }))) × (new ≡ old))
    ⊎ (((is_nothing standing ≡ false) × (replace ≡ false) × (came ≡ Ok (Occupied standing)) × (new ≡ old))
    ⊎ ((is_nothing standing ≡ false) × (replace ≡ true) × (put : Result (Option (String Global)) Refused) × PutsOwnAside files (string_bytes beside.undo) put old new × (came ≡ placed_by beside standing put)))

-- FILE is held first, and then looked at. Where it can't be held, nothing else is done.
abbrev pub Guards : {Files Refused : Type 0} → texts.Ghosts Files → written.Ghosts Files → (word : List ℕ) → (replace : Bool) → Result Guard Refused → (old new : Files) → Type 0
Guards {Files} {Refused} read files word replace came old new =
    ((beside : UndoFiles) × (held : Files) × (standing : Standing) × HoldsOwn {Refused = Refused} files word (Ok (Some beside)) old held
    × StandsOwn (read.gives held) (files.leads held) (string_bytes beside.undo) standing × GuardsHeld files beside standing replace came held new)
    ⊎ (((came ≡ Ok Held) × HoldsOwn {Refused = Refused} files word (Ok None) old new)
    ⊎ ((refused : Refused) × (came ≡ Err refused) × ((new ≡ old) ⊎ ((beside : UndoFiles) × HoldsOwn {Refused = Refused} files word (Ok (Some beside)) old new))))
