use Rattle.std.proofs.Common.{◌≡◌, ℕ, zero, suc, ◌+◌, ◌-◌, ◌%◌, ◌^◌, ◌<◌, min, bit_and, w16, refl, sym, ◌∙◌, ap, arith}
use Rattle.std.specs.Int.{bit_at}
use Rattle.std.proofs.lemmas.Nat.{and_le_l, xor_lt}
use Rattle.std.proofs.lemmas.Nat.Bits.{bit_at_and, bit_at_not, bit_at_xor, bit_at-lt, same_from_bits_below}
use Rattle.sensor_recs.proofs.event_enable.difference.Goals as goal

one_bit : (a b : ℕ) → a < 2 → b < 2 → min a (1 - b) ≡ (a + min a b) % 2
one_bit zero zero small also = refl
one_bit zero (suc zero) small also = refl
one_bit zero (suc (suc b)) small also = absurd (omega arith)
one_bit (suc zero) zero small also = refl
one_bit (suc zero) (suc zero) small also = refl
one_bit (suc zero) (suc (suc b)) small also = absurd (omega arith)
one_bit (suc (suc a)) b small also = absurd (omega arith)

pub returns : goal.returns
returns c =
    let events : ℕ = c.args.events in
    let others : ℕ = c.args.others in
    let fits : events < 2 ^ 16 = omega arith in
    let also : others < 2 ^ 16 = omega arith in
    same_from_bits_below 16 _ _ (omega (arith, and_le_l events (65535 - others))) (xor_lt 16 events (bit_and events others) fits (omega (arith, and_le_l events others))) (λ k lt.
    bit_at_and events (65535 - others) k
    ∙ ap (min (bit_at events k)) (bit_at_not w16 others k also lt)
    ∙ one_bit _ _ (bit_at-lt events k) (bit_at-lt others k)
    ∙ sym (bit_at_xor events (bit_and events others) k ∙ ap (λ (n : ℕ). (bit_at events k + n) % 2) (bit_at_and events others k)))
