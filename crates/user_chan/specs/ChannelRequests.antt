-- Requests of the commands of channel access, from their data (IPMI 2.0, Set and Get Channel Access): the channel in bits 3:0 of the first
-- byte, and a store in bits 7:6 of the others.
use Rattle.std.specs.Prelude.{ℕ, ◌/◌, ◌==◌, List, Bool, Option, Some, None, if◌then◌else◌}
use Rattle.record_base.specs.declared.channel.AccessStore.{AccessStore}
use Rattle.record_base.specs.declared.channel.AccessStore.TheVariants.{NonVolatile, Volatile, Neither}
use Rattle.record_base.specs.declared.channel.StoredAccess.{StoredAccess}
use Rattle.record_base.specs.declared.channel.ChannelChange.{ChannelChange}
use Rattle.record_base.specs.declared.channel.ChannelChange.TheVariants.{Access, Limit, Both}
use Rattle.record_base.specs.declared.channel.SetChannelAccess.{SetChannelAccess}
use Rattle.record_base.specs.Values.{stored}
use Rattle.record_base.specs.Numbers.{ChannelNumber, SixBits, low_bits, channel_in}
use Rattle.record_base.specs.Requests.{byte_at}
use Rattle.user_chan.specs.ChannelAccess.{store_bits}
use Rattle.user_chan.specs.declared.channel_request.ChannelRequest.{ChannelRequest}
use Rattle.user_chan.specs.declared.channel_request.ChannelRequest.TheVariants.{Leave, One, Two}

-- ---- Get Channel Access

-- the store of these bits: 01b and 10b name one
abbrev pub store_at : ℕ → AccessStore
store_at bits = if bits == 1 then NonVolatile else (if bits == 2 then Volatile else Neither)

-- the record that a Get asks for
abbrev pub stored_in : List ℕ → StoredAccess
stored_in body = stored (channel_in (byte_at body 0)) (store_at (byte_at body 1 / 64))

-- ---- Set Channel Access

-- the store that these bits name for a part: 00b leaves the part, and 11b names no store that a channel has
abbrev pub named : ℕ → Option AccessStore
named bits = if bits == 0 then None else Some (store_at bits)

-- both stores are the same
abbrev pub same_store : AccessStore → AccessStore → Bool
same_store first second = store_bits first == store_bits second

abbrev pub change : ChannelNumber → AccessStore → ChannelChange → SetChannelAccess
change channel store what = record { channel = channel; store = store; change = what }

-- the request, from the stores that it names for the access and for the limit
abbrev pub asked_for : ChannelNumber → Option AccessStore → Option AccessStore → SixBits → SixBits → ChannelRequest
asked_for channel None None access limit = Leave channel
asked_for channel (Some store) None access limit = One (change channel store (Access access))
asked_for channel None (Some other) access limit = One (change channel other (Limit limit))
asked_for channel (Some store) (Some other) access limit =
    if same_store store other then One (change channel store (Both access limit)) else Two (change channel store (Access access)) (change channel other (Limit limit))

abbrev pub channel_request_in : List ℕ → ChannelRequest
channel_request_in body =
    asked_for (channel_in (byte_at body 0)) (named (byte_at body 1 / 64)) (named (byte_at body 2 / 64)) (low_bits 6 (byte_at body 1)) (low_bits 6 (byte_at body 2))
