-- Set Channel Access (IPMI 2.0) changes the access in one store and the limit in another, by the definitions of Sets of two stores: both or neither. It
-- may happen on every board that has such a channel.
use Rattle.std.specs.Prelude.{◌≡◌, ℕ, List, [], ◌∷◌, true, Option, Some, None}
use Rattle.record_base.specs.Numbers.{channel_in}
use Rattle.record_base.specs.Values.{stored}
use Rattle.record_base.specs.declared.channel.AccessStore.TheVariants.{NonVolatile, Volatile}
use Rattle.record_base.specs.declared.channel.Channel.{Channel}
use Rattle.record_base.specs.declared.key.Key.{Key}
use Rattle.record_base.specs.declared.key.Key.TheVariants as key
use Rattle.record_base.specs.declared.message.Answered.{Answered}
use Rattle.cfg_records.specs.declared.board_file.BoardFile.{BoardFile}
use Rattle.cfg_records.specs.Records.{Records}
use Rattle.user_chan.specs.declared.channel_request.ChannelRequest.{ChannelRequest}
use Rattle.user_chan.specs.declared.channel_request.ChannelRequest.TheVariants.{Two}
use Rattle.user_chan.specs.ChannelRequests.{channel_request_in}
use Rattle.record_kinds.specs.Boards.{channel_at, is_sessionless}
use Rattle.record_kinds.specs.Replies.{done, refused}
use Rattle.record_kinds.specs.Keeps.{answer_to_both, records_after_both}

-- the access of a channel in both stores
abbrev pub non_volatile : ℕ → Key
non_volatile channel = key.ChannelAccess (stored (channel_in channel) NonVolatile)

abbrev pub volatile : ℕ → Key
volatile channel = key.ChannelAccess (stored (channel_in channel) Volatile)

-- channel 2 has access 3Ah and limit 3 in the first store, and 09h and 5 in the second; channel 15 has no sessions
pub record HasChannel (setup : BoardFile) (records : Records) : Type 0 where
  pub channel : Channel
  pub there : channel_at setup.channels.items 2 ≡ Some channel
  pub first : records (non_volatile 2) ≡ Some (0x3A ∷ 0x03 ∷ [])
  pub second : records (volatile 2) ≡ Some (0x09 ∷ 0x05 ∷ [])
  pub no_fifteenth : channel_at setup.channels.items 15 ≡ None
  pub is_sessionless : is_sessionless setup 15 ≡ true

-- what the board answers to such a request, and what it leaves of the records
abbrev pub given : BoardFile → Records → ChannelRequest → Option (Answered × Records)
given setup records (Two first second) = Some (answer_to_both setup records first second, records_after_both setup records first second)
given setup records _ = None

-- this came of the data, and left these bytes in both stores of channel 2
pub record SetGives (setup : BoardFile) (records : Records) (body : List ℕ) (answer : Answered) (first second : List ℕ) : Type 0 where
  pub after : Records
  pub came : given setup records (channel_request_in body) ≡ Some (answer, after)
  pub in_first : after (non_volatile 2) ≡ Some first
  pub in_second : after (volatile 2) ≡ Some second

-- access 1 and limit 2 are set; limit 6, and mode 4, is none
pub record ChangesTogether (setup : BoardFile) (records : Records) : Type 0 where
  pub both : SetGives setup records (0x02 ∷ 0x41 ∷ 0x82 ∷ []) (done []) (0x01 ∷ 0x03 ∷ []) (0x09 ∷ 0x02 ∷ [])
  pub second_refused : SetGives setup records (0x02 ∷ 0x41 ∷ 0x86 ∷ []) (refused 0xCC) (0x3A ∷ 0x03 ∷ []) (0x09 ∷ 0x05 ∷ [])
  pub first_refused : SetGives setup records (0x02 ∷ 0x44 ∷ 0x82 ∷ []) (refused 0xCC) (0x3A ∷ 0x03 ∷ []) (0x09 ∷ 0x05 ∷ [])
  pub no_sessions : SetGives setup records (0x0F ∷ 0x41 ∷ 0x82 ∷ []) (refused 0x82) (0x3A ∷ 0x03 ∷ []) (0x09 ∷ 0x05 ∷ [])
