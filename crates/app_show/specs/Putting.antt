-- The files that get plans.
use Rattle.std.specs.Prelude.{◌≡◌, ◌≢◌, ◌⊎◌, ◌==◌, ℕ, suc, true, false, List, [], ◌∷◌, ◌++◌, length, slice_get, take, Option, Some, None, Ok, Err, String, codes, string_bytes, if◌then◌else◌}
use Rattle.std.specs.declared.alloc.Global.{Global}
use Rattle.std.specs.Fmt.{decimal}
use Rattle.app_journal.specs.declared.files.WriteFault.{WriteFault}
use Rattle.app_journal.specs.declared.files.WritesFiles.{Ghosts}
use Rattle.app_journal.specs.declared.undo_files.UndoFiles.{UndoFiles}
use Rattle.app_journal.specs.Beside.{IsOwn, PutsPart}
use Rattle.app_journal.specs.Claiming.{IsFreeAt, Places}
use Rattle.app_show.specs.declared.putting.Unput.{Unput}

-- the name without `.toml` at its end
abbrev pub IsStemOf : (name stem : List ℕ) → Type 0
IsStemOf name stem = (name ≡ stem ++ codes ".toml") ⊎ (((other : List ℕ) → name ≢ other ++ codes ".toml") × (stem ≡ name))

-- the name of the file of the plan of this number, of so many: NAME.toml, or NAME-1.toml, NAME-2.toml and so on
abbrev pub file_name : (stem : List ℕ) → (number count : ℕ) → List ℕ
file_name stem number count = if count == 1 then stem ++ codes ".toml" else stem ++ (codes "-" ++ (decimal number ++ codes ".toml"))

-- the files of the plans behind so many
abbrev pub AreFilesFrom : (stem : List ℕ) → (count behind : ℕ) → List UndoFiles → Type 0
AreFilesFrom stem count behind [] = Unit {0}
AreFilesFrom stem count behind (file ∷ later) = IsOwn (file_name stem (suc behind) count) file × AreFilesFrom stem count (suc behind) later

-- the files of so many plans, by the name that is given for them
abbrev pub AreFilesOf : (name : List ℕ) → (count : ℕ) → List UndoFiles → Type 0
AreFilesOf name count files = (length files ≡ count) × ((stem : List ℕ) × IsStemOf name stem × AreFilesFrom stem count 0 files)

-- none of the files is there
abbrev pub AreFree : Places → List UndoFiles → Type 0
AreFree leads [] = Unit {0}
AreFree leads (file ∷ later) = IsFreeAt leads (string_bytes file.part) true × AreFree leads later

-- the file at this place is there, or leads to what is no file, and none before it; or none is
abbrev pub IsFirstTaken : Places → List UndoFiles → Option ℕ → Type 0
IsFirstTaken leads files None = AreFree leads files
IsFirstTaken leads files (Some place) =
    (file : UndoFiles) × (slice_get files place ≡ Some file) × IsFreeAt leads (string_bytes file.part) false × AreFree leads (take place files)

module _ {Files : Type 0} (of : Ghosts Files) where
  -- each file gets its text, by its name alone, one after another
  abbrev pub PutsAll : List UndoFiles → (texts : List (String Global)) → (old new : Files) → Type 0
  PutsAll [] [] old new = new ≡ old
  PutsAll (file ∷ later) (text ∷ texts) old new =
      (mid : Files) × PutsPart of.takes of.renames file (string_bytes text) old (Ok tt) mid × PutsAll later texts mid new
  PutsAll _ _ old new = ⊥

  -- the file at this place couldn't be put, and each before it was
  pub record StopsPutting (all : List UndoFiles) (texts : List (String Global)) (why : Unput) (old new : Files) : Type 0 where
    pub mid : Files
    pub before : PutsAll (take why.place all) (take why.place texts) old mid
    pub file : UndoFiles
    pub at : slice_get all why.place ≡ Some file
    pub text : String Global
    pub its_text : slice_get texts why.place ≡ Some text
    pub fault : WriteFault
    pub fails : PutsPart of.takes of.renames file (string_bytes text) mid (Err fault) new
