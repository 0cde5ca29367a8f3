-- Numbers of channels and users in the bytes of requests (IPMI 2.0): a channel has 4 bits, and a user 6.
use Rattle.std.specs.Prelude.{ℕ, ◌+◌, ◌*◌, ◌%◌, ◌^◌, ◌<◌}
use Rattle.record_base.specs.declared.bit_field.BitField.{BitField}
use Rattle.record_base.specs.declared.user.UserOnChannel.{UserOnChannel}
use Rattle.std.proofs.Math.Nat.{mod-lt}
use Rattle.std.proofs.lemmas.Nat.{pow_pos}

pub low_below : (bits n : ℕ) → n % 2 ^ bits < 2 ^ bits
low_below bits n = mod-lt n (pow_pos bits)

-- the number in the low bits of a byte
abbrev pub low_bits : (bits : ℕ) → ℕ → BitField bits
low_bits bits byte = record { number = byte % 2 ^ bits; below = low_below bits byte }

-- the number of a channel
abbrev pub ChannelNumber : Type 0
ChannelNumber = BitField 4

-- the number of a user
abbrev pub UserNumber : Type 0
UserNumber = BitField 6

-- six bits of a byte
abbrev pub SixBits : Type 0
SixBits = BitField 6

-- the channel in bits 3:0 of a byte
abbrev pub channel_in : ℕ → ChannelNumber
channel_in byte = low_bits 4 byte

-- the user in bits 5:0
abbrev pub user_in : ℕ → UserNumber
user_in byte = low_bits 6 byte

-- the user and the channel in two bytes
abbrev pub user_on : ℕ → ℕ → UserOnChannel
user_on channel user = record { channel = channel_in channel; user = user_in user }

-- a number for each user on each channel
abbrev pub number_on : UserOnChannel → ℕ
number_on on = on.channel.number * 64 + on.user.number
