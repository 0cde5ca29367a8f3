-- How the files of an undo text are taken for one process.
use Rattle.std.specs.Prelude.{◌≡◌, ◌<◌, ◌≤◌, ◌⊎◌, ℕ, List, [], ◌++◌, Bool, true, false, Option, Some, None, Result, Ok, Err, String, codes, string_bytes}
use Rattle.std.specs.declared.alloc.Global.{Global}
use Rattle.std.specs.Fmt.{decimal}
use Rattle.app_base.specs.declared.files.TextFiles as texts
use Rattle.app_base.specs.declared.files.UnreadFile.TheVariants.{NoText}
use Rattle.app_base.specs.Files.{Readings}
use Rattle.app_journal.specs.declared.files.HoldFault.{HoldFault}
use Rattle.app_journal.specs.declared.files.WriteFault.{WriteFault}
use Rattle.app_journal.specs.declared.files.Place.{Place}
use Rattle.app_journal.specs.declared.files.Place.TheVariants.{Free, File, Stream}
use Rattle.app_journal.specs.declared.files.PlaceFault.{PlaceFault}
use Rattle.app_journal.specs.declared.files.PlaceFault.TheVariants.{NoPlace}
use Rattle.app_journal.specs.declared.files.WritesFiles as written
use Rattle.app_journal.specs.declared.claiming.Claim.{Claim}
use Rattle.app_journal.specs.declared.claiming.Claim.TheVariants as claim
use Rattle.app_journal.specs.declared.undo_files.UndoFiles.{UndoFiles}
use Rattle.app_journal.specs.declared.standing.Standing.{Standing}
use Rattle.app_journal.specs.declared.standing.Standing.TheVariants.{Nothing, NoJournal}
use Rattle.app_journal.specs.Beside.{IsBeside, IsStream}
use Rattle.app_journal.specs.Standing.{StandsBeside}

-- where the links of words may lead
abbrev pub Places : Type 1
Places = (word : List ℕ) → Result Place PlaceFault → Type 0

-- ---- the hold

-- the word leads to a file of this word, which is there or can be made
abbrev pub IsFileAt : Places → (word path : List ℕ) → Type 0
IsFileAt leads word path = (found : String Global) × (string_bytes found ≡ path) × (leads word (Ok (Free found)) ⊎ leads word (Ok (File found)))

-- these are the files to which the word leads; or it leads to none
abbrev pub LeadsTo : Places → (word : List ℕ) → Option UndoFiles → Type 0
LeadsTo leads word (Some beside) = ((path : List ℕ) × IsFileAt leads word path × IsBeside path beside) ⊎ (leads word (Ok Stream) × IsStream word beside)
LeadsTo leads word None = leads word (Err NoPlace)

-- The files to which a word leads are held, of which a FIFO or a device needs no hold. Or they aren't, since the word leads to none, or the hold failed. Or memory
-- was refused before.
abbrev pub HoldsFiles : {Files Refused : Type 0} → written.Ghosts Files → (word : List ℕ) → Result (Option UndoFiles) Refused → (old new : Files) → Type 0
HoldsFiles files word (Ok (Some beside)) old new =
    LeadsTo (files.leads old) word (Some beside)
    × (((beside.is_stream ≡ false) × files.holds old (string_bytes beside.lock) (Ok tt) new) ⊎ ((beside.is_stream ≡ true) × (new ≡ old)))
HoldsFiles files word (Ok None) old new =
    (LeadsTo (files.leads old) word None × (new ≡ old))
    ⊎ ((beside : UndoFiles) × (why : HoldFault) × LeadsTo (files.leads old) word (Some beside) × (beside.is_stream ≡ false) × files.holds old (string_bytes beside.lock) (Err why) new)
HoldsFiles files word (Err refused) old new = new ≡ old

-- ---- what the journal's file has

-- what the file of a word has, beside an undo text: what its text says, or no journal where it can't be read
abbrev pub StandsIn : Readings → (word undo : List ℕ) → Standing → Type 0
StandsIn gives word undo standing =
    ((text : List ℕ) × gives word (Ok text) × StandsBeside text undo standing) ⊎ (gives word (Err NoText) × (standing ≡ NoJournal))

-- A plain file has that. Where there is no file there is nothing, and what is no plain file has no journal.
abbrev pub StandsThere : Readings → Places → (word undo : List ℕ) → Standing → Type 0
StandsThere gives leads word undo standing =
    ((found : String Global) × leads word (Ok (Free found)) × (standing ≡ Nothing))
    ⊎ (((found : String Global) × leads word (Ok (File found)) × StandsIn gives word undo standing)
    ⊎ ((leads word (Ok Stream) ⊎ leads word (Err NoPlace)) × (standing ≡ NoJournal)))

-- so has the journal's file; beside a FIFO or a device there is none
abbrev pub StandsAt : Readings → Places → UndoFiles → (undo : List ℕ) → Standing → Type 0
StandsAt gives leads beside undo standing =
    ((beside.is_stream ≡ true) × (standing ≡ Nothing)) ⊎ ((beside.is_stream ≡ false) × StandsThere gives leads (string_bytes beside.part) undo standing)

-- the file of a word has this text, or can't be read
abbrev pub MayHave : Readings → (word text : List ℕ) → Type 0
MayHave gives word text = gives word (Ok text) ⊎ (gives word (Err NoText) × (text ≡ []))

-- what the journal's file has, beside the text that the file of the undo text has
abbrev pub LooksAt : Readings → Places → UndoFiles → Standing → Type 0
LooksAt gives leads beside standing =
    ((beside.is_stream ≡ true) × (standing ≡ Nothing))
    ⊎ ((undo : List ℕ) × MayHave gives (string_bytes beside.undo) undo × StandsAt gives leads beside undo standing)

-- a file that has nothing to take back may be written over
abbrev pub may_go : Standing → Bool
may_go Nothing = true
may_go _ = false

-- ---- what is put aside

-- the word names no file
abbrev pub is_free : Result Place PlaceFault → Bool
is_free (Ok (Free found)) = true
is_free _ = false

-- it does, or doesn't
abbrev pub IsFreeAt : Places → (word : List ℕ) → (free : Bool) → Type 0
IsFreeAt leads word free = (answer : Result Place PlaceFault) × leads word answer × (is_free answer ≡ free)

-- the word with a number behind it
abbrev pub numbered : (word : List ℕ) → (number : ℕ) → List ℕ
numbered word number = word ++ (codes "." ++ decimal number)

-- all words with a number from 1 on and below this one name files
abbrev pub AreTaken : Places → (word : List ℕ) → (number : ℕ) → Type 0
AreTaken leads word number = (lower : ℕ) → 1 ≤ lower → lower < number → IsFreeAt leads (numbered word lower) false

-- the first number that isn't tried
abbrev pub numbers_end : ℕ
numbers_end = 10000

-- this is the first of the words with a number behind that names no file; or none of them is free
abbrev pub IsFirstFree : Places → (word : List ℕ) → Option (String Global) → Type 0
IsFirstFree leads word (Some name) =
    (number : ℕ) × (string_bytes name ≡ numbered word number) × IsFreeAt leads (numbered word number) true × AreTaken leads word number
IsFirstFree leads word None = AreTaken leads word numbers_end

-- The journal's file gets the first free name, and the files may be written over then. Or none is free, or the renaming failed. Or memory was refused before.
abbrev pub PutsAside : {Files Refused : Type 0} → written.Ghosts Files → UndoFiles → Result Claim Refused → (old new : Files) → Type 0
PutsAside files beside (Ok (claim.Taken taken)) old new =
    (name : String Global) × (taken ≡ record { beside = beside; aside = Some name }) × IsFirstFree (files.leads old) (string_bytes beside.part) (Some name)
    × files.renames old (string_bytes beside.part) (string_bytes name) (Ok tt) new
PutsAside files beside (Ok claim.Refused) old new =
    (IsFirstFree (files.leads old) (string_bytes beside.part) None × (new ≡ old))
    ⊎ ((name : String Global) × (why : WriteFault) × IsFirstFree (files.leads old) (string_bytes beside.part) (Some name)
    × files.renames old (string_bytes beside.part) (string_bytes name) (Err why) new)
PutsAside files beside (Err refused) old new = new ≡ old

-- ---- a claim

-- Files that are held are claimed: the journal's file has nothing that would be lost; or it has, and they are refused, or it is put aside. Or memory was refused.
abbrev pub ClaimsHeld : {Files Refused : Type 0} → texts.Ghosts Files → written.Ghosts Files → UndoFiles → (replace : Bool) → Result Claim Refused → (old new : Files) → Type 0
ClaimsHeld {Files} {Refused} read files beside replace (Err refused) old new = new ≡ old
ClaimsHeld {Files} {Refused} read files beside replace (Ok came) old new =
    (standing : Standing) × LooksAt (read.gives old) (files.leads old) beside standing
    × (((may_go standing ≡ true) × (came ≡ claim.Taken (record { beside = beside; aside = None })) × (new ≡ old))
    ⊎ (((may_go standing ≡ false) × (replace ≡ false) × (came ≡ claim.Refused) × (new ≡ old))
    ⊎ ((may_go standing ≡ false) × (replace ≡ true) × PutsAside {Refused = Refused} files beside (Ok came) old new)))

-- A claim of the files to which a word leads: they are held first, and then looked at. Where they can't be held, nothing else is done.
abbrev pub Claims : {Files Refused : Type 0} → texts.Ghosts Files → written.Ghosts Files → (word : List ℕ) → (replace : Bool) → Result Claim Refused → (old new : Files) → Type 0
Claims {Files} {Refused} read files word replace came old new =
    ((beside : UndoFiles) × (held : Files) × HoldsFiles {Refused = Refused} files word (Ok (Some beside)) old held × ClaimsHeld read files beside replace came held new)
    ⊎ (((came ≡ Ok claim.Refused) × HoldsFiles {Refused = Refused} files word (Ok None) old new)
    ⊎ ((refused : Refused) × (came ≡ Err refused) × (new ≡ old)))
