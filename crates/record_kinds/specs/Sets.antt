-- What comes of Sets: the answers, and what they leave.
use Rattle.std.specs.Prelude.{◌≡◌, ℕ, List, [], Option, Some, Result, Ok, Err}
use Rattle.record_base.specs.Meaning.{value_or_code}
use Rattle.record_base.specs.declared.key.Key.{Key}
use Rattle.record_base.specs.declared.op.Op.{Op}
use Rattle.record_base.specs.declared.live.Live.{Live as LivePart}
use Rattle.record_base.specs.declared.message.Answered.{Answered}
use Rattle.cfg_records.specs.Records.{Records, with_record}
use Rattle.cfg_records.specs.declared.board_file.BoardFile.{BoardFile}
use Rattle.record_kinds.specs.declared.limits.Limits.{Limits}
use Rattle.record_kinds.specs.Limits.{key_of, limits_at, outcome, set_reply, next_live}
use Rattle.record_kinds.specs.Replies.{done, refused, unknown_code}

-- what comes of an operation on a record, which may not be there: the new value, or the code that refuses it
abbrev pub set_outcome : Option Limits → Option (List ℕ) → ℕ → Op → Result (List ℕ) ℕ
set_outcome (Some limits) (Some old) unknown op = outcome limits op old
set_outcome _ _ unknown op = Err unknown

-- the value that an operation makes of its record among these, or the code that refuses it
abbrev pub outcome_among : BoardFile → Records → Op → Result (List ℕ) ℕ
outcome_among setup records op = set_outcome (limits_at setup (key_of op)) (records (key_of op)) (unknown_code setup (key_of op)) op

-- the operation's value was made, or the code that refuses the operation is given
abbrev pub MakesValue : {A : Type 0} → BoardFile → Records → Op → Result A ℕ → List ℕ → Type 0
MakesValue setup records op result made = value_or_code result made ≡ outcome_among setup records op

-- ---- one operation, by what it makes

-- its answer
abbrev pub set_given : Result (List ℕ) ℕ → Op → Answered
set_given (Ok new) op = done (set_reply op)
set_given (Err fault) op = refused fault

-- the records after it
abbrev pub records_set : Result (List ℕ) ℕ → Op → Records → Records
records_set (Ok new) op before = with_record before (key_of op) new
records_set (Err fault) op before = before

-- the live part after it
abbrev pub live_set : Result (List ℕ) ℕ → Op → LivePart → LivePart
live_set (Ok new) op before = next_live op before
live_set (Err fault) op before = before

-- ---- two operations: both records change, or neither does. The first code that refuses one of them refuses both.

abbrev pub both_answered : Result (List ℕ) ℕ → Result (List ℕ) ℕ → Answered
both_answered (Ok new) (Ok other) = done []
both_answered (Ok new) (Err fault) = refused fault
both_answered (Err fault) _ = refused fault

abbrev pub both_set : Result (List ℕ) ℕ → Result (List ℕ) ℕ → Key → Key → Records → Records
both_set (Ok new) (Ok other) key other_key before = with_record (with_record before key new) other_key other
both_set (Ok new) (Err fault) key other_key before = before
both_set (Err fault) _ key other_key before = before
