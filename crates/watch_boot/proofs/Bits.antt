-- Masks of the bytes of a watchdog, as quotients and remainders.
use Rattle.std.proofs.Common.{◌≡◌, ℕ, ◌+◌, ◌*◌, ◌/◌, ◌%◌, ◌^◌, ◌<◌, ◌≤◌, bit_and, bit_or, ◌∙◌, ap, arith}
use Rattle.std.proofs.lemmas.Nat.{and_block, and_mask, or_disjoint}
use Rattle.std.proofs.lemmas.Nat.Bits.{and_pow}
use Rattle.std.specs.Int.{bit_at}
use Rattle.watch_boot.specs.Watchdog.{kept_use, kept_actions}

-- bits 7 and 2:0 of a byte
pub use_bits : (byte : ℕ) → byte < 2 ^ 8 → bit_and byte 135 ≡ kept_use byte
use_bits byte fits =
    let parts : byte ≡ byte / 128 * 128 + byte % 128 = omega arith in
    let top : bit_and (byte / 128) 1 ≡ byte / 128 % 2 = and_mask (byte / 128) 1 in
    let low : bit_and (byte % 128) 7 ≡ byte % 128 % 8 = and_mask (byte % 128) 3 in
    let both : bit_and (byte / 128 * 128 + byte % 128) 135 ≡ bit_and (byte / 128) 1 * 128 + bit_and (byte % 128) 7 = and_block 7 (byte / 128) 1 (byte % 128) 7 (omega arith) (omega arith) in
    ap (λ (n : ℕ). bit_and n 135) parts ∙ both ∙ omega arith

-- bits 6:4 and 2:0 of a byte
pub action_bits : (byte : ℕ) → bit_and byte 119 ≡ kept_actions byte
action_bits byte =
    let parts : byte ≡ byte / 16 * 16 + byte % 16 = omega arith in
    let top : bit_and (byte / 16) 7 ≡ byte / 16 % 8 = and_mask (byte / 16) 3 in
    let low : bit_and (byte % 16) 7 ≡ byte % 16 % 8 = and_mask (byte % 16) 3 in
    let both : bit_and (byte / 16 * 16 + byte % 16) 119 ≡ bit_and (byte / 16) 7 * 16 + bit_and (byte % 16) 7 = and_block 4 (byte / 16) 7 (byte % 16) 7 (omega arith) (omega arith) in
    ap (λ (n : ℕ). bit_and n 119) parts ∙ both ∙ omega arith

-- bit 6 of a byte that hasn't it
pub running_bit : (byte : ℕ) → byte % 128 ≤ 5 → bit_or byte 64 ≡ byte / 128 * 128 + byte % 64 + 64
running_bit byte known =
    let clear : bit_at byte 6 ≡ 0 = let zero_is : byte / 64 % 2 ≡ 0 = omega arith in zero_is in
    let apart : bit_and byte 64 ≡ 0 = and_pow byte 6 ∙ ap (λ (n : ℕ). n * 64) clear in
    or_disjoint byte 64 apart ∙ omega arith
