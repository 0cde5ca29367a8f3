-- What sets a user's access to what its Get shows.
use Rattle.std.proofs.Common.{◌≡◌, ℕ, ◌+◌, ◌*◌, ◌/◌, ◌%◌, ◌^◌, ◌<◌, List, length, slice_index, ◌==◌, Bool, true, false, Some, None, if◌then◌else◌, ◌∙◌, sym, ap, arith, refl}
use Rattle.record_base.specs.InverseLaws.{same_tested}
use Rattle.record_base.specs.declared.user.SetUserAccess.{SetUserAccess}
use Rattle.record_base.specs.declared.user.UserOnChannel.{UserOnChannel}
use Rattle.user_chan.specs.declared.user_access.UserAccessLimits.{UserAccessLimits}
use Rattle.user_chan.specs.CommonLaws.{again}
use Rattle.user_chan.specs.UserAccess.{SetsUserAccess, bits_of, low_of, changes_bits, undo_access, words, record_words}
use Rattle.user_chan.specs.UserAccessLaws.{record_laws}
use Rattle.shown_records.specs.Probes.{probe_access}
use Rattle.shown_records.proofs.SetBack.{IsSetBack, any_values, set_back_by}

-- a byte with bit 7, these bits and this channel
with_top : (bits channel : ℕ) → bits < 8 → channel < 16 → (128 + bits * 16 + channel) / 2 ^ 7 % 2 ≡ 1
with_top bits channel few also = omega arith

low_again : (bits channel : ℕ) → channel < 16 → (128 + bits * 16 + channel) % 16 ≡ channel
low_again bits channel few = omega arith

low_below : (byte : ℕ) → byte % 16 < 16
low_below byte = omega arith

bits_below : (byte : ℕ) → byte / 16 % 8 < 8
bits_below byte = omega arith

then_is : (b : Bool) (x y : ℕ) → b ≡ true → (if b then x else y) ≡ x
then_is b x y e = ap (λ v. if v then x else y) e

-- the operation changes bits 6:4, where its first byte says so
abbrev changing : (bits channel user limit : ℕ) → SetUserAccess
changing bits channel user limit = record { first = 128 + bits * 16 + channel; user = user; limit = limit; session_limit = None }

changes : (bits channel user limit : ℕ) → bits < 8 → channel < 16 → changes_bits (changing bits channel user limit) ≡ true
changes bits channel user limit few also = same_tested _ _ (with_top bits channel few also)

-- what brings back the access that a reply shows, of an operation that changes bits 6:4
undo_is : (op : SetUserAccess) (reply : List ℕ) → changes_bits op ≡ true → undo_access op reply ≡ changing (bits_of (slice_index reply 3)) (low_of op.first) (op.user % 64) (low_of (slice_index reply 3))
undo_is op reply is =
    ap (λ (n : ℕ). record { first = n; user = op.user % 64; limit = low_of (slice_index reply 3); session_limit = None })
    (then_is (changes_bits op) (128 + bits_of (slice_index reply 3) * 16 + low_of op.first) (low_of op.first) is)

-- taken back by the same reply it is itself
undo_again : (op : SetUserAccess) (reply : List ℕ) → changes_bits op ≡ true → undo_access (undo_access op reply) reply ≡ undo_access op reply
undo_again op reply is =
    let bits : ℕ = bits_of (slice_index reply 3) in
    let channel : ℕ = low_of op.first in
    let limit : ℕ = low_of (slice_index reply 3) in
    let made : SetUserAccess = changing bits channel (op.user % 64) limit in
    let same : undo_access op reply ≡ made = undo_is op reply is in
    ap (λ (o : SetUserAccess). undo_access o reply) same
    ∙ undo_is made reply (changes bits channel (op.user % 64) limit (bits_below (slice_index reply 3)) (low_below op.first))
    ∙ (λ i. changing bits (low_again bits channel (low_below op.first) i) (again op.user i) limit)
    ∙ sym same

changed_by : (op : SetUserAccess) (reply : List ℕ) → changes_bits op ≡ true → changes_bits (undo_access op reply) ≡ true
changed_by op reply is =
    ap changes_bits (undo_is op reply is) ∙ changes (bits_of (slice_index reply 3)) (low_of op.first) (op.user % 64) (low_of (slice_index reply 3)) (bits_below (slice_index reply 3)) (low_below op.first)

probe_changes : (on : UserOnChannel) → changes_bits (probe_access on) ≡ true
probe_changes on = let below : on.channel.number < 16 = on.channel.below in same_tested _ _ (omega arith)

moves : (op : SetUserAccess) (one other made : List ℕ) → changes_bits op ≡ true → SetsUserAccess op one made → SetsUserAccess op other made
moves op one other made is done = record {
  accepted = done.accepted;
  one = done.one;
  seven_bits = done.seven_bits;
  limited = done.limited;
  changed = done.changed;
  kept = λ gone. absurd (let both : true ≡ false = sym is ∙ gone in cc);
}

again_is : (on : UserOnChannel) (reply : List ℕ) → (length reply == 4) ≡ true → words.inverse (undo_access (probe_access on) reply) reply ≡ Some (undo_access (probe_access on) reply)
again_is on reply holds =
    ap (λ b. if b then Some (undo_access (undo_access (probe_access on) reply) reply) else None) holds ∙ ap Some (undo_again (probe_access on) reply (probe_changes on))

pub set_back : (limits : UserAccessLimits) → IsSetBack words (record_words limits) (λ on shown. probe_access on) any_values
set_back limits =
    set_back_by words (record_words limits) (record_laws limits) _ (λ on reply. length reply == 4) (λ on reply. undo_access (probe_access on) reply) (λ on reply. refl) again_is
    (λ on reply one other made holds. moves (undo_access (probe_access on) reply) one other made (changed_by (probe_access on) reply (probe_changes on)))
