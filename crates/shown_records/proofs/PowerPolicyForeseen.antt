-- What is foreseen of the power restore policy.
use Rattle.std.proofs.Common.{◌≡◌, ℕ, ◌+◌, ◌*◌, ◌/◌, ◌%◌, ◌<◌, ◌≤◌, nat_lt, List, [], ◌∷◌, slice_index, Bool, true, false, if◌then◌else◌, refl, ap, arith}
use Rattle.std.proofs.lemmas.Bool.Decides.{nat_tests}
use Rattle.record_base.specs.declared.live.Live.{Live}
use Rattle.record_base.specs.declared.power_policy.SetPowerPolicy.{SetPowerPolicy}
use Rattle.record_base.specs.PowerPolicy.{IsPowerPolicy}
use Rattle.watch_boot.specs.PowerPolicy.{asked_policy, SetsPolicy, status, words, record_words}
use Rattle.watch_boot.specs.PowerPolicyLaws.{record_laws}
use Rattle.shown_records.specs.Settings.{after_policy}
use Rattle.shown_records.proofs.Foreseen.{IsForeseen, whole_foreseen}

is_below : (a b : ℕ) → nat_lt a b ≡ true → a < b
is_below a b h = grind (arith, nat_tests)

not_below : (a b : ℕ) → nat_lt a b ≡ false → b ≤ a
not_below a b h = grind (arith, nat_tests)

-- the first byte of a status has the new policy, and the chassis bits that it had
status_is : (asked old new chassis : ℕ) (b : Bool) → nat_lt asked 3 ≡ b → asked ≤ 3 → old ≤ 3 → (asked < 3 → new ≡ asked) → (asked ≡ 3 → new ≡ old)
    → new * 32 + chassis % 32 ≡ (if b then (old * 32 + chassis % 32) / 128 * 128 + asked * 32 + (old * 32 + chassis % 32) % 32 else old * 32 + chassis % 32)
status_is asked old new chassis true is known fits changed unchanged = let made : new ≡ asked = changed (is_below asked 3 is) in omega arith
status_is asked old new chassis false is known fits changed unchanged =
    let above : 3 ≤ asked = not_below asked 3 is in ap (λ (n : ℕ). n * 32 + chassis % 32) (unchanged (omega arith))

foresees : (op : SetPowerPolicy) (old new : List ℕ) (live : Live) → IsPowerPolicy old → SetsPolicy op old new → status new live ≡ after_policy op (status old live)
foresees op old new live is_valid done =
    ap (λ (n : ℕ). n ∷ 0 ∷ 0 ∷ [])
    (status_is (asked_policy op) (slice_index old 0) (slice_index new 0) live.chassis (nat_lt (asked_policy op) 3) refl done.known is_valid.known done.changed done.unchanged)

pub foreseen : IsForeseen words record_words after_policy
foreseen = whole_foreseen words record_words after_policy record_laws (λ value. refl) foresees
