-- A request that changes the access of a channel in one store, and its limit in another, changes both records or neither.
use Rattle.std.specs.Prelude.{◌≡◌, ◌≢◌, ℕ, List, [], Ok, ◌⊎◌}
use Rattle.two_wire.specs.Codes.{success}
use Rattle.cfg_records.specs.Records.{with_record}
use Rattle.record_base.specs.declared.channel.SetChannelAccess.{SetChannelAccess}
use Rattle.record_base.specs.declared.op.Op.{Op}
use Rattle.record_base.specs.declared.op.Op.TheVariants as of_kind
use Rattle.cfg_records.specs.declared.board_file.BoardFile.{BoardFile}
use Rattle.record_kinds.specs.Limits.{key_of}
use Rattle.bmc_board.specs.Request.{SetStores}
use Rattle.bmc_board.specs.State.{State, state, IsUnchanged}
use Rattle.bmc_board.specs.Replies.{done}
use Rattle.bmc_board.specs.Answer.{AnswerAndState, outcome_at, serve}

-- both operations are accepted on the board as it was, and both new values are written
pub record ChangesBoth (setup : BoardFile) (before : State) (first second : Op) (given : AnswerAndState) : Type 0 where
  pub new : List ℕ
  pub other : List ℕ
  pub first_made : outcome_at setup before first ≡ Ok new
  pub second_made : outcome_at setup before second ≡ Ok other
  pub replied : given.0 ≡ done []
  pub left : given.1 ≡ state (with_record (with_record before.records (key_of first) new) (key_of second) other) before.activity

-- the request is refused, and nothing changes
pub record ChangesNeither (before : State) (given : AnswerAndState) : Type 0 where
  pub is_fault : given.0.code ≢ success
  pub left : IsUnchanged before given.1

abbrev pub BothOrNone : Type 0
BothOrNone = (setup : BoardFile) (before : State) (first second : SetChannelAccess)
    → ChangesBoth setup before (of_kind.ChannelAccess first) (of_kind.ChannelAccess second) (serve setup before (SetStores first second)) ⊎ ChangesNeither before (serve setup before (SetStores first second))
