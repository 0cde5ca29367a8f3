-- Each record has limits, and a value that they allow.
use Rattle.std.specs.Prelude.{List, ℕ, Option, Some, None}
use Rattle.record_base.specs.declared.key.Key.{Key}
use Rattle.cfg_records.specs.declared.board_file.BoardFile.{BoardFile}
use Rattle.cfg_records.specs.Records.{Records, records_of}
use Rattle.cfg_records.specs.Boards.{pairs_of}
use Rattle.record_kinds.specs.declared.limits.Limits.{Limits}
use Rattle.record_kinds.specs.Limits.{valid, limits_at}

-- limits and a value that they allow, or neither
abbrev pub IsSoundAt : Option Limits → Option (List ℕ) → Type 0
IsSoundAt (Some limits) (Some value) = valid limits value
IsSoundAt None None = Unit {0}
IsSoundAt _ _ = ⊥

-- each key has limits and a value that they allow, or neither
abbrev pub AreSoundRecords : BoardFile → Records → Type 0
AreSoundRecords file records = (key : Key) → IsSoundAt (limits_at file key) (records key)

-- the records that a board file gives are sound
abbrev pub StartsSound : Type 0
StartsSound = (file : BoardFile) → AreSoundRecords file (records_of (pairs_of file))
