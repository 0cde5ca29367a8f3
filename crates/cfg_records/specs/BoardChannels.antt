-- The channels of a board file, and what its users may do on them (IPMI 2.0).
use Rattle.std.specs.Prelude.{ℕ, List, ◌++◌, map, Bool, nat_le, ◌==◌, ◌||◌}
use Rattle.std.specs.List.{flat_map, list_all, list_any}
use Rattle.record_base.specs.declared.channel.Channel.{Channel}
use Rattle.record_base.specs.Numbers.{ChannelNumber}
use Rattle.record_base.specs.declared.lan.Lan.{Lan}
use Rattle.record_base.specs.declared.user.User.{User}
use Rattle.record_base.specs.declared.user.UserAccess.{UserAccess}

-- the numbers of all channels: of those with sessions, and of those without
abbrev pub channel_numbers : List Channel → List ChannelNumber → List ℕ
channel_numbers channels sessionless = map (λ channel. channel.number.number) channels ++ map (λ channel. channel.number) sessionless

-- the number is one that a channel can have: 0 to 11, or 15
abbrev pub is_channel : ℕ → Bool
is_channel number = nat_le number 11 || (number == 15)

-- each of the LAN parameters is of a channel that has one of the numbers
abbrev pub are_listed : List ℕ → List Lan → Bool
are_listed numbers lans = list_all (λ lan. list_any (λ number. number == lan.number.number) numbers) lans

-- the numbers of the channel and of the user
abbrev pub on_numbers : UserAccess → ℕ × ℕ
on_numbers access = (access.on.channel.number, access.on.user.number)

-- each of the users on each of the channels, channel after channel
abbrev pub each_user_on : List Channel → List User → List (ℕ × ℕ)
each_user_on channels users = flat_map (λ channel. map (λ user. (channel.number.number, user.number.number)) users) channels
