use Rattle.std.proofs.Common.{◌≡◌, ℕ, ◌<◌, true, false, slice_index}
use Rattle.user_chan.proofs.password.are_same.Given as goal

-- so far they are the same, or they aren't
abbrev pub invariant-loop-place : goal.invariant-loop-place
invariant-loop-place g l =
    (l.same ≡ true → (k : ℕ) → k < l.place → slice_index l.a k ≡ slice_index l.b k)
    × (l.same ≡ false → ¬ (l.a ≡ l.b))
