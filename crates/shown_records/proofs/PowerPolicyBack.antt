-- What sets the power restore policy to what its Get shows.
use Rattle.std.proofs.Common.{◌≡◌, ◌≢◌, ℕ, ◌/◌, ◌%◌, List, slice_index, ◌==◌, not, true, Some, None, if◌then◌else◌, ◌∙◌, sym, ap, arith, refl}
use Rattle.std.proofs.lemmas.Bool.Decides.{nat_tests}
use Rattle.record_base.specs.declared.power_policy.SetPowerPolicy.{SetPowerPolicy}
use Rattle.record_base.specs.MaskLaws.{both_true}
use Rattle.watch_boot.specs.PowerPolicy.{asked_policy, SetsPolicy, shown_policy, is_known, undo_policy, words, record_words}
use Rattle.watch_boot.specs.PowerPolicyLaws.{record_laws}
use Rattle.shown_records.proofs.SetBack.{IsSetBack, any_values, set_back_by}

not_three : (n : ℕ) → not (n == 3) ≡ true → n ≢ 3
not_three n h same = grind (arith, nat_tests)

-- an operation with a policy other than 3 makes the same whatever the old policy is
moves : (op : SetPowerPolicy) (one other made : List ℕ) → asked_policy op ≢ 3 → SetsPolicy op one made → SetsPolicy op other made
moves op one other made known done = record { known = done.known; one = done.one; changed = done.changed; unchanged = λ three. absurd (known three) }

small : (n : ℕ) → n % 4 % 8 ≡ n % 4
small n = omega arith

asks_known : (reply : List ℕ) → is_known reply ≡ true → asked_policy (undo_policy reply) ≢ 3
asks_known reply holds three = not_three (shown_policy reply) (both_true _ _ holds).1 (sym (small (slice_index reply 0 / 32)) ∙ three)

pub set_back : IsSetBack words record_words (λ alone shown. record { policy = 0 }) any_values
set_back =
    set_back_by words record_words record_laws _ (λ alone reply. is_known reply) (λ alone reply. undo_policy reply) (λ alone reply. refl)
    (λ alone reply holds. ap (λ b. if b then Some (undo_policy reply) else None) holds) (λ alone reply one other made holds. moves (undo_policy reply) one other made (asks_known reply holds))
