-- What can be asked for.
use Rattle.std.specs.Prelude.{ℕ, List}
use Rattle.record_base.specs.declared.key.Key.{Key}
use Rattle.record_base.specs.declared.op.Op.{Op}
use Rattle.record_base.specs.declared.channel.SetChannelAccess.{SetChannelAccess}
use Rattle.record_kinds.specs.declared.set_part.SetPart.{SetPart}
use Rattle.bmc_board.specs.declared.live.LiveCommand.{LiveCommand}

-- to carry out a live command with its data, to show a record, to change one, or to change the access of a channel in one store and its limit in
-- another; to carry out a requester's part of a change of an attribute, or to show a later part of an attribute's entry, by its handle and that of
-- the transfer
pub data Request : Type 0 where
  Live : LiveCommand → List ℕ → Request
  Get : Key → Request
  Set : Op → Request
  SetStores : SetChannelAccess → SetChannelAccess → Request
  PartOfSet : ℕ → SetPart → Request
  LaterPart : ℕ → ℕ → Request
