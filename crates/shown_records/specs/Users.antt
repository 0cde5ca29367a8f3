-- What the Gets of users and channels show behind an operation (IPMI 2.0).
use Rattle.std.specs.Prelude.{ℕ, ◌+◌, ◌*◌, ◌/◌, List, [], ◌∷◌, slice_index}
use Rattle.record_base.specs.declared.channel.SetChannelAccess.{SetChannelAccess}
use Rattle.record_base.specs.declared.lan_parameter.SetLanParam.{SetLanParam}
use Rattle.record_base.specs.declared.user.SetUserAccess.{SetUserAccess}
use Rattle.record_base.specs.declared.user.SetUserName.{SetUserName}
use Rattle.user_chan.specs.ChannelAccess.{changed}
use Rattle.user_chan.specs.LanParam.{value_after}
use Rattle.user_chan.specs.UserAccess.{byte_of, next_bits}

-- the name becomes the operation's
abbrev pub after_user_name : SetUserName → List ℕ → List ℕ
after_user_name op shown = op.name

-- the last byte: the limit becomes the operation's, bits 6:4 where the operation changes them, and bit 7 stays
abbrev pub access_after : SetUserAccess → (old : ℕ) → ℕ
access_after op old = old / 128 * 128 + byte_of (next_bits op old) op.limit

-- the three bytes before it say nothing of the record
abbrev pub after_user_access : SetUserAccess → List ℕ → List ℕ
after_user_access op shown = slice_index shown 0 ∷ slice_index shown 1 ∷ slice_index shown 2 ∷ access_after op (slice_index shown 3) ∷ []

-- the parts that the operation names become the operation's
abbrev pub after_channel_access : SetChannelAccess → List ℕ → List ℕ
after_channel_access op shown = changed op.change shown

-- the data behind the revision become the operation's
abbrev pub after_lan_param : SetLanParam → List ℕ → List ℕ
after_lan_param op shown = slice_index shown 0 ∷ value_after op.change
