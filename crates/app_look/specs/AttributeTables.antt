-- The names of attributes, read in the tables of attributes and of strings, one part after another (DSP0247, "GetBIOSTable").
use Rattle.std.specs.Prelude.{◌≡◌, ◌<◌, ◌⊎◌, ◌==◌, ℕ, zero, suc, Bool, true, false, not, List, [], ◌++◌, length, Option, Some, None}
use Rattle.bios_attr.specs.EntryParts.{entry_in}
use Rattle.bios_attr.specs.declared.bios_table.BiosTable.{BiosTable}
use Rattle.bios_attr.specs.declared.bios_table.BiosTable.TheVariants as table
use Rattle.undo_look.specs.declared.stage.Stage.{Stage}
use Rattle.undo_look.specs.declared.stage.Stage.TheVariants as stage
use Rattle.undo_look.specs.declared.target.TablePart.{TablePart}
use Rattle.undo_look.specs.declared.target.TablePart.TheVariants.{Bios}
use Rattle.report_words.specs.declared.table_names.Names.{Names}
use Rattle.report_words.specs.TableNames.{AreNamed}
use Rattle.app_look.specs.declared.attributes.Behind.{Behind}
use Rattle.app_look.specs.declared.attributes.Behind.TheVariants.{Part, Whole, Unknown}
use Rattle.app_look.specs.declared.session.Session.{Session}
use Rattle.app_look.specs.Asking.{AsksPart, behind_part}

-- how many parts of a table are read at most
abbrev pub most_parts : ℕ
most_parts = 1024

-- ---- a table

-- what a reply shows of a table stands behind what was read before; where none shows anything, it isn't known what comes behind that
abbrev pub AddsShown : Stage → (shown was : List ℕ) → Behind → (is : List ℕ) → Type 0
AddsShown (stage.Found target) shown was behind is = (behind ≡ behind_part shown) × (is ≡ was ++ entry_in shown)
AddsShown _ shown was behind is = (behind ≡ Unknown) × (is ≡ was)

-- a part was asked for, and so it is added
pub record AddsPart (part : TablePart) (old : Session) (was : List ℕ) (behind : Behind) (new : Session) (is : List ℕ) : Type 0 where
  pub asks : AsksPart part old new
  pub adds : AddsShown new.looker.stage new.looker.shown was behind is

-- So many parts of a table were read, each by the handle that the one before gives, and the first by the handle 0. These are their bytes, and this
-- is the handle of the next.
abbrev pub ReadsParts : (count : ℕ) → BiosTable → (old new : Session) → (bytes : List ℕ) → (transfer : ℕ) → Type 0
ReadsParts zero table old new bytes transfer = (new ≡ old) × (bytes ≡ []) × (transfer ≡ 0)
ReadsParts (suc count) table old new bytes transfer =
    (mid : Session) × (before : List ℕ) × (at : ℕ) × ReadsParts count table old mid before at × AddsPart (Bios table at) mid before (Part transfer) new bytes

-- behind them a part was read that comes to this
pub record EndsParts (table : BiosTable) (old : Session) (behind : Behind) (new : Session) (bytes : List ℕ) : Type 0 where
  pub count : ℕ
  pub few : count < most_parts
  pub mid : Session
  pub before : List ℕ
  pub transfer : ℕ
  pub parts : ReadsParts count table old mid before transfer
  pub last : AddsPart (Bios table transfer) mid before behind new bytes

-- as many parts were read as are read at most, and the table isn't whole
abbrev pub IsTooLong : BiosTable → (old new : Session) → Type 0
IsTooLong table old new = (bytes : List ℕ) × (transfer : ℕ) × ReadsParts most_parts table old new bytes transfer

-- the table is these bytes; or it isn't whole: a part was refused, wasn't answered or shows nothing, or there are too many
abbrev pub ReadsTable : BiosTable → (old : Session) → Option (List ℕ) → (new : Session) → Type 0
ReadsTable table old (Some bytes) new = EndsParts table old Whole new bytes
ReadsTable table old None new = ((bytes : List ℕ) × EndsParts table old Unknown new bytes) ⊎ IsTooLong table old new

-- ---- the names in the tables

-- the name of an attribute is wanted
abbrev pub wants_attributes : Names → Bool
wants_attributes names = not (length names.attributes.items == 0)

-- each attribute has the name that these tables give it
abbrev pub NamesAttributes : (attributes : List ℕ) → (strings : Option (List ℕ)) → (was is : Names) → Type 0
NamesAttributes attributes (Some strings) was is = AreNamed attributes strings was.attributes.items is.attributes.items × (is.sensors ≡ was.sensors)
NamesAttributes attributes None was is = is ≡ was

-- behind the table of attributes that of strings was read, and gives the names; without the first nothing more was
abbrev pub ReadsStrings : (attributes : Option (List ℕ)) → (old : Session) → (was : Names) → (new : Session) → (is : Names) → Type 0
ReadsStrings (Some attributes) old was new is =
    (strings : Option (List ℕ)) × ReadsTable table.Strings old strings new × NamesAttributes attributes strings was is
ReadsStrings None old was new is = (new ≡ old) × (is ≡ was)

-- where no name of an attribute is wanted nothing is asked for
abbrev pub ReadsAttributes : (old : Session) → (was : Names) → (new : Session) → (is : Names) → Type 0
ReadsAttributes old was new is =
    ((wants_attributes was ≡ false) × (new ≡ old) × (is ≡ was))
    ⊎ ((wants_attributes was ≡ true) × ((mid : Session) × (attributes : Option (List ℕ)) × ReadsTable table.Attributes old attributes mid × ReadsStrings attributes mid was new is))
