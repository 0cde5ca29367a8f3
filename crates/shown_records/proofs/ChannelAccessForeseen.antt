-- What is foreseen of a channel's access.
use Rattle.std.proofs.Common.{◌≡◌, ℕ, List, refl}
use Rattle.two_wire.specs.Codes.{invalid_data_field}
use Rattle.record_base.specs.declared.channel.SetChannelAccess.{SetChannelAccess}
use Rattle.user_chan.specs.ChannelAccess.{SetsChannelAccess, changed, is_change, words, record_words}
use Rattle.user_chan.specs.ChannelAccessLaws.{record_laws}
use Rattle.shown_records.specs.Users.{after_channel_access}
use Rattle.shown_records.proofs.Foreseen.{IsForeseen, made_only, whole_foreseen}

new_is : (op : SetChannelAccess) (old new : List ℕ) → SetsChannelAccess op old new → new ≡ changed op.change old
new_is op old new done = made_only (is_change op.change) (changed op.change old) invalid_data_field (SetsChannelAccess op old) new (record_laws.decides op old) (record_laws.determined op old) done

pub foreseen : IsForeseen words record_words after_channel_access
foreseen = whole_foreseen words record_words after_channel_access record_laws (λ value. refl) (λ op old new live is_valid done. new_is op old new done)
