-- What is foreseen of a user's access.
use Rattle.std.proofs.Common.{◌≡◌, ℕ, ◌+◌, ◌*◌, ◌/◌, ◌<◌, List, [], ◌∷◌, slice_index, refl, ◌∙◌, ap, arith}
use Rattle.two_wire.specs.Codes.{invalid_data_field}
use Rattle.record_base.specs.declared.live.Live.{Live}
use Rattle.record_base.specs.declared.user.SetUserAccess.{SetUserAccess}
use Rattle.record_base.specs.UserAccess.{is_limit, IsUserAccess}
use Rattle.user_chan.specs.declared.user_access.UserAccessLimits.{UserAccessLimits}
use Rattle.user_chan.specs.UserAccess.{SetsUserAccess, low_of, next_bits, byte_of, access_view, words, record_words}
use Rattle.user_chan.specs.UserAccessLaws.{record_laws}
use Rattle.shown_records.specs.Users.{access_after, after_user_access}
use Rattle.shown_records.proofs.Foreseen.{IsForeseen, made_only, whole_foreseen}

new_is : (limits : UserAccessLimits) (op : SetUserAccess) (old new : List ℕ) → SetsUserAccess op old new → new ≡ byte_of (next_bits op (slice_index old 0)) op.limit ∷ []
new_is limits op old new done =
    made_only (is_limit (low_of op.limit)) (byte_of (next_bits op (slice_index old 0)) op.limit ∷ []) invalid_data_field (SetsUserAccess op old) new
    ((record_laws limits).decides op old) ((record_laws limits).determined op old) done

no_top : (old byte : ℕ) → old < 128 → byte ≡ old / 128 * 128 + byte
no_top old byte below = omega arith

access_is : (limits : UserAccessLimits) (op : SetUserAccess) (old new : List ℕ) → IsUserAccess old → SetsUserAccess op old new → slice_index new 0 ≡ access_after op (slice_index old 0)
access_is limits op old new is_valid done =
    ap (λ (xs : List ℕ). slice_index xs 0) (new_is limits op old new done) ∙ no_top (slice_index old 0) (byte_of (next_bits op (slice_index old 0)) op.limit) is_valid.seven_bits

foresees : (limits : UserAccessLimits) (op : SetUserAccess) (old new : List ℕ) (live : Live) → IsUserAccess old → SetsUserAccess op old new
    → access_view limits new live ≡ after_user_access op (access_view limits old live)
foresees limits op old new live is_valid done =
    ap (λ (n : ℕ). slice_index (access_view limits old live) 0 ∷ slice_index (access_view limits old live) 1 ∷ slice_index (access_view limits old live) 2 ∷ n ∷ []) (access_is limits op old new is_valid done)

pub foreseen : (limits : UserAccessLimits) → IsForeseen words (record_words limits) after_user_access
foreseen limits = whole_foreseen words (record_words limits) after_user_access (record_laws limits) (λ value. refl) (foresees limits)
