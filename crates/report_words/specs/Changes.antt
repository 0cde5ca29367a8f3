-- The records of a board that have another value than they began with, in words.
use Rattle.std.specs.Prelude.{◌≡◌, ℕ, ◌==◌, Bool, true, false, not, List, [], filter, find, map, Option, None, Some}
use Rattle.std.specs.Option.{option_map_or, unwrap_or}
use Rattle.record_base.specs.declared.key.Key.{Key}
use Rattle.record_base.specs.declared.key.Key.TheVariants as key
use Rattle.record_base.specs.Attribute.{type_of_kind}
use Rattle.cfg_records.specs.declared.board_file.BoardFile.{BoardFile}
use Rattle.cfg_records.specs.Boards.{pairs_of}
use Rattle.cfg_records.specs.Changed.{is_value}
use Rattle.cfg_records.specs.Records.{Pair, Records}
use Rattle.record_words.specs.OpWords.{change_words}
use Rattle.report_words.specs.declared.change_list.ChangeList.{ChangeList}
use Rattle.report_words.specs.declared.first_records.FirstRecords.{FirstRecords}
use Rattle.report_words.specs.BoardNames.{GivenNames, named_told, names_of}

-- the handle of each attribute of a board, with its type
abbrev pub types_of : BoardFile → List (ℕ × ℕ)
types_of file = map (λ a. (a.handle, type_of_kind a.kind)) file.attributes.items

-- the type of the attribute that has this handle, and 0 where there is none
abbrev pub type_of : List (ℕ × ℕ) → (handle : ℕ) → ℕ
type_of types handle = option_map_or (λ typed. typed.1) (find (λ typed. typed.0 == handle) types) 0

-- the type of a record's attribute, where it is the record of one
abbrev pub type_at : List (ℕ × ℕ) → Key → ℕ
type_at types (key.BiosAttribute handle) = type_of types handle
type_at types other = 0

-- those of the records that have another value in these
abbrev pub changed_pairs : Records → List Pair → List Pair
changed_pairs records start = filter (λ pair. not (is_value pair.1 (records pair.0))) start

-- what a record has
abbrev pub held : Option (List ℕ) → List ℕ
held value = unwrap_or value []

-- a record, what it began with, and what it has
abbrev pub change_told : List (ℕ × ℕ) → Records → Pair → List ℕ
change_told types records pair = change_words pair.0 (type_at types pair.0) pair.1 (held (records pair.0))

-- the line of a record
abbrev pub change_line : List (ℕ × ℕ) → GivenNames → Records → Pair → List ℕ
change_line types names records pair = named_told names pair.0 (change_told types records pair)

-- the records of a list that have another value in these, in its order
abbrev pub lines_over : List (ℕ × ℕ) → GivenNames → Records → List Pair → List (List ℕ)
lines_over types names records start = map (change_line types names records) (changed_pairs records start)

-- the records of a board that have another value in these than they began with, in the board's order
abbrev pub changed_lines : BoardFile → Records → List (List ℕ)
changed_lines file records = lines_over (types_of file) (names_of file) records (pairs_of file)

-- these are a board's records as they begin, the types of its attributes, and its names
pub record AreFirstOf (file : BoardFile) (first : FirstRecords) : Type 0 where
  pub start : first.start.items ≡ pairs_of file
  pub types : first.types.items ≡ types_of file
  pub names : first.names ≡ names_of file

-- ---- the list, where it is asked for

-- it is that of the board of a file, or there is none
abbrev pub IsListOf : (asked : Bool) → BoardFile → ChangeList → Type 0
IsListOf true file list = (first : FirstRecords) × (list.first ≡ Some first) × AreFirstOf file first
IsListOf false file list = list.first ≡ None

-- its lines
abbrev pub listed : (asked : Bool) → BoardFile → Records → List (List ℕ)
listed true file records = changed_lines file records
listed false file records = []
