-- What a change and its undo do to the records of a board, and to what its Gets show. The activity may be another at
-- each moment.
use Rattle.std.specs.Prelude.{◌≡◌, ℕ, List, Some}
use Rattle.two_wire.specs.Codes.{success}
use Rattle.record_kinds.specs.Limits.{key_of, limits_at}
use Rattle.record_base.specs.declared.key.Key.{Key}
use Rattle.record_base.specs.declared.op.Op.{Op}
use Rattle.record_base.specs.declared.message.Answered.{Answered}
use Rattle.cfg_records.specs.declared.board_file.BoardFile.{BoardFile}
use Rattle.record_kinds.specs.declared.limits.Limits.{Limits}
use Rattle.record_kinds.specs.Limits.{conf, get_asked, is_reply, inverse}
use Rattle.record_kinds.specs.Series.{set_whole, first_shown}
use Rattle.record_kinds.specs.Sound.{AreSoundRecords}
use Rattle.bmc_board.specs.State.{State}
use Rattle.bmc_board.specs.Row.{Row}
use Rattle.bmc_board.specs.Decode.{sent_by}

-- A record is read, changed by an operation, and changed back by the operation that undoes it from the Get reply, each time at the
-- request of any requester. Each request goes from one state to another, and the records stay as they are from one request to the next.
pub record ChangesAndBack (setup : BoardFile) (op made : Op) (before got until after from back : State) (shown changed undone : Answered) : Type 0 where
  pub reader : ℕ
  pub changer : ℕ
  pub undoer : ℕ
  pub sound : AreSoundRecords setup before.records
  pub read : Row setup before (sent_by reader (get_asked (key_of op))) shown got
  pub was_read : shown.code ≡ success
  pub undoes : inverse op shown.body ≡ Some made
  pub stayed : until.records ≡ got.records
  pub change : Row setup until (sent_by changer (set_whole op)) changed after
  pub was_changed : changed.code ≡ success
  pub stayed_changed : from.records ≡ after.records
  pub way_back : Row setup from (sent_by undoer (set_whole made)) undone back

-- a record of the operation is read by any requester, where each record is valid
pub record ReadsRecord (setup : BoardFile) (op : Op) (before got : State) (shown : Answered) : Type 0 where
  pub reader : ℕ
  pub sound : AreSoundRecords setup before.records
  pub read : Row setup before (sent_by reader (get_asked (key_of op))) shown got
  pub was_read : shown.code ≡ success

-- the data are what a first reply shows of a Get reply of the operation's kind: all of it, or the first part of a long attribute's
pub record ShowsReply (setup : BoardFile) (op : Op) (body : List ℕ) : Type 0 where
  pub limits : Limits
  pub has_limits : limits_at setup (key_of op) ≡ Some limits
  pub whole : List ℕ
  pub is_whole : is_reply op whole
  pub shown : body ≡ first_shown limits whole

-- So are the data of its reply. From a Get reply of the kind `inverse` has an operation exactly where the operation can be undone.
abbrev pub IsAReply : Type 0
IsAReply = (setup : BoardFile) (op : Op) (before got : State) (shown : Answered) → ReadsRecord setup op before got shown → ShowsReply setup op shown.body

-- then the undo is carried out, and all records are as before
abbrev pub IsUndone : Type 0
IsUndone = (setup : BoardFile) (op made : Op) (before got until after from back : State) (shown changed undone : Answered)
    → ChangesAndBack setup op made before got until after from back shown changed undone
    → (undone.code ≡ success) × (back.records ≡ before.records)

-- the record of a key, with these limits, is read at two states
pub record ReadsTwice (setup : BoardFile) (key : Key) (limits : Limits) (first got second again : State) (shown shown_again : Answered) : Type 0 where
  pub reader : ℕ
  pub later_reader : ℕ
  pub has_limits : limits_at setup key ≡ Some limits
  pub read : Row setup first (sent_by reader (get_asked key)) shown got
  pub was_read : shown.code ≡ success
  pub read_again : Row setup second (sent_by later_reader (get_asked key)) shown_again again

-- both Gets are carried out, and show the same configuration
abbrev pub ShowsTheSame : Limits → Answered → Answered → Type 0
ShowsTheSame limits shown shown_again = (shown_again.code ≡ success) × (conf limits shown_again.body ≡ conf limits shown.body)

-- two Gets of a record show the same configuration where the records are the same
abbrev pub IsSteady : Type 0
IsSteady = (setup : BoardFile) (key : Key) (limits : Limits) (first got second again : State) (shown shown_again : Answered)
    → ReadsTwice setup key limits first got second again shown shown_again
    → second.records ≡ first.records
    → ShowsTheSame limits shown shown_again

-- so do a Get of any record before a change and a Get of it after the undo
abbrev pub IsShownAsBefore : Type 0
IsShownAsBefore = (setup : BoardFile) (op made : Op) (before got until after from back : State) (shown changed undone : Answered)
    → ChangesAndBack setup op made before got until after from back shown changed undone
    → (key : Key) (limits : Limits) (earlier seen later again : State) (shown_then shown_now : Answered)
    → ReadsTwice setup key limits earlier seen later again shown_then shown_now
    → earlier.records ≡ before.records
    → later.records ≡ back.records
    → ShowsTheSame limits shown_then shown_now
