-- How long replies are.
use Rattle.std.specs.Prelude.{ℕ}
use Rattle.record_base.specs.Meaning.{room_for}
use Rattle.record_kinds.specs.Limits.{get_asked, set_asked}
use Rattle.bmc_board.specs.Request.{Request}
use Rattle.two_wire.specs.Sizes.{most_pldm_reply_data}
use Rattle.bmc_board.specs.Request.{Live, Get, Set, SetStores, PartOfSet, LaterPart}
use Rattle.bmc_board.specs.Live.{longest_live_reply, longest_live}
use Rattle.bmc_board.specs.BiosTables.{longest_part}

-- the reply to what is asked for has at most so many bytes of data
abbrev pub longest_reply : Request → ℕ
longest_reply (Live command body) = longest_live command
longest_reply (Get key) = room_for (get_asked key)
longest_reply (Set op) = room_for (set_asked op)
longest_reply (SetStores first second) = longest_live_reply
longest_reply (PartOfSet from part) = most_pldm_reply_data
longest_reply (LaterPart handle transfer) = longest_part
