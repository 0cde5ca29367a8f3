-- What sets a channel's access to what its Get shows.
use Rattle.std.proofs.Common.{ℕ, List, length, ◌==◌, Some, None, if◌then◌else◌, ap, refl}
use Rattle.record_base.specs.declared.channel.StoredAccess.{StoredAccess}
use Rattle.user_chan.specs.ChannelAccess.{SetsChannelAccess, undo_channel, words, record_words}
use Rattle.user_chan.specs.ChannelAccessLaws.{record_laws}
use Rattle.shown_records.specs.Probes.{probe_channel}
use Rattle.shown_records.proofs.SetBack.{IsSetBack, any_values, set_back_by}

moves : (at : StoredAccess) (value one other made : List ℕ) → SetsChannelAccess (undo_channel (probe_channel at) value) one made → SetsChannelAccess (undo_channel (probe_channel at) value) other made
moves at value one other made done = record { accepted = done.accepted; made = record { two = done.made.two; access = done.made.access; limit = done.made.limit } }

pub set_back : IsSetBack words record_words (λ at shown. probe_channel at) any_values
set_back =
    set_back_by words record_words record_laws _ (λ at reply. length reply == 2) (λ at reply. undo_channel (probe_channel at) reply) (λ at reply. refl)
    (λ at reply holds. ap (λ b. if b then Some (undo_channel (probe_channel at) reply) else None) holds) (λ at reply one other made holds. moves at reply one other made)
