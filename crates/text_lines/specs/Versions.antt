-- What the versions of the undo text say on line 1, and how many lines each has in front of the requests.
use Rattle.std.specs.Prelude.{ℕ, List, codes}
use Rattle.text_lines.specs.declared.undo_version.Version.{Version}
use Rattle.text_lines.specs.declared.undo_version.Version.TheVariants.{One, Two}

-- line 1 is the version
abbrev pub version_line : Version → List ℕ
version_line One = codes "undo 1"
version_line Two = codes "undo 2"

-- how many lines stand in front of the requests
abbrev pub head_length : Version → ℕ
head_length One = 2
head_length Two = 3
