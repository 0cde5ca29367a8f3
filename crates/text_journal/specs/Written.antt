-- The text that is written for a journal.
use Rattle.std.specs.Prelude.{◌<◌, ◌^◌, ℕ, List, [], ◌∷◌, ◌++◌, length, map, Option, Some, None, codes}
use Rattle.std.specs.List.{flat_map}
use Rattle.hex.specs.Hex.{encode_upper}
use Rattle.text_lines.specs.Cuts.{ended}
use Rattle.record_base.specs.declared.op.Op.{Op}
use Rattle.record_base.specs.declared.message.Asked.{Asked}
use Rattle.record_kinds.specs.Series.{set_whole}
use Rattle.undo_plans.specs.declared.names.Names.{Names}
use Rattle.undo_plans.specs.KeptManager.{Kept}
use Rattle.text_lines.specs.UndoText.{bus_of}
use Rattle.text_journal.specs.JournalLines.{number_line, numbers_line, IsBytesLine, IsNamesLine, IsRequestLine, IsSpelt, names_bytes, bytes_of, stage_line, stage_step}
use Rattle.text_journal.specs.JournalText.{told_line}

-- words, and bytes in upper-case hexadecimal
abbrev pub bytes_line : (words bytes : List ℕ) → List ℕ
bytes_line words bytes = words ++ encode_upper bytes

abbrev pub listed_line : Option Names → List ℕ
listed_line None = codes "unlisted"
listed_line (Some names) = bytes_line (codes "listed ") (names_bytes names)

-- the lines in front of the steps
abbrev pub head_lines : Kept → List (List ℕ)
head_lines kept =
    codes "journal 1" ∷ number_line (codes "retries ") kept.retries ∷ bytes_line (codes "names ") (names_bytes kept.names) ∷ listed_line kept.listed ∷ []

abbrev pub request_line : Asked → List ℕ
request_line asked = bytes_line (bus_of asked) (bytes_of asked)

abbrev pub step_line : Op → List ℕ
step_line op = request_line (set_whole op)

abbrev pub waiting_lines : Option Asked → List (List ℕ)
waiting_lines None = number_line (codes "waiting ") 0 ∷ []
waiting_lines (Some asked) = number_line (codes "waiting ") 1 ∷ request_line asked ∷ []

-- the lines of the steps, of the requests that undo, and of the one that waits
abbrev pub step_lines : List Op → List (List ℕ)
step_lines plan = number_line (codes "steps ") (length plan) ∷ map step_line plan

abbrev pub undo_lines : List Asked → List (List ℕ)
undo_lines members = number_line (codes "undo ") (length members) ∷ map request_line members

abbrev pub replies_line : List ℕ → List ℕ
replies_line [] = codes "no replies"
replies_line (byte ∷ bytes) = bytes_line (codes "replies ") (byte ∷ bytes)

-- the lines behind the lists
abbrev pub state_lines : Kept → List (List ℕ)
state_lines kept = stage_line kept.stage ∷ told_line kept.stopped ∷ numbers_line (codes "counts ") kept.counts.ipmb kept.counts.smbus ∷ replies_line kept.replies ∷ []

abbrev pub lines_of : Kept → List (List ℕ)
lines_of kept = head_lines kept ++ (step_lines kept.plan ++ (undo_lines kept.members ++ (waiting_lines kept.waiting ++ state_lines kept)))

abbrev pub text_of : Kept → List ℕ
text_of kept = flat_map ended (lines_of kept)

-- ---- what is written is read again

-- the line of the names in the list is theirs, where there are some
abbrev pub IsListed : Option Names → Type 0
IsListed None = Unit {0}
IsListed (Some names) = IsNamesLine (codes "listed ") (bytes_line (codes "listed ") (names_bytes names)) names

-- each line in front of the steps says what is kept
pub record HasHead (kept : Kept) : Type 0 where
  pub retries : kept.retries < 256
  pub names : IsNamesLine (codes "names ") (bytes_line (codes "names ") (names_bytes kept.names)) kept.names
  pub listed : IsListed kept.listed

-- the line of the request that waits is its
abbrev pub IsWaitingLine : Option Asked → Type 0
IsWaitingLine None = Unit {0}
IsWaitingLine (Some asked) = IsRequestLine (request_line asked) asked

-- each line behind the lists says what is kept
pub record HasState (kept : Kept) : Type 0 where
  pub stage : stage_step kept.stage < 2 ^ 32 → IsSpelt kept.stage
  pub ipmb : kept.counts.ipmb < 2 ^ 16
  pub smbus : kept.counts.smbus < 2 ^ 16
  pub replies : IsBytesLine (codes "replies ") (bytes_line (codes "replies ") kept.replies) kept.replies
