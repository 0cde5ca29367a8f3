-- A walk over numbers of which some are there, in which none may be below an earlier one.
use Rattle.std.proofs.Common.{◌≡◌, ℕ, ◌+◌, ◌<◌, ◌≤◌, ◌⊎◌, inl, inr, Bool, IsTrue, IsFalse, refl, arith, below_more, true, false}

-- those before n are in order, and `highest` is the last of them, or 0
pub record IsOrderedTo (there : ℕ → Bool) (value : ℕ → ℕ) (n highest : ℕ) : Type 0 where
  pub in_order : (low high : ℕ) → low < high → high < n → IsTrue (there low) → IsTrue (there high) → value low ≤ value high
  pub above : (low : ℕ) → low < n → IsTrue (there low) → value low ≤ highest
  pub reached : (highest ≡ 0) ⊎ ((low : ℕ) × (low < n) × IsTrue (there low) × (value low ≡ highest))

true_false : (b : Bool) → b ≡ true → b ≡ false → ⊥
true_false b p q = cc

pub IsOrderedTo-there : (there : ℕ → Bool) (value : ℕ → ℕ) (n highest : ℕ) → IsOrderedTo there value n highest → IsTrue (there n) → highest ≤ value n → IsOrderedTo there value (n + 1) (value n)
IsOrderedTo-there there value n highest h here up = record {
  in_order = λ low high lt below low_there high_there. below_more (λ k. low < k → IsTrue (there k) → value low ≤ value k) n
      (λ k kn lk k_there. h.in_order low k lk kn low_there k_there)
      (λ ln _. omega (arith, h.above low ln low_there)) high below lt high_there;
  above = below_more (λ k. IsTrue (there k) → value k ≤ value n) n (λ k kn k_there. omega (arith, h.above k kn k_there)) (λ _. omega arith);
  reached = inr (n, omega arith, here, refl);
}

pub IsOrderedTo-absent : (there : ℕ → Bool) (value : ℕ → ℕ) (n highest : ℕ) → IsOrderedTo there value n highest → IsFalse (there n) → IsOrderedTo there value (n + 1) highest
IsOrderedTo-absent there value n highest h gone = record {
  in_order = λ low high lt below low_there high_there. below_more (λ k. low < k → IsTrue (there k) → value low ≤ value k) n
      (λ k kn lk k_there. h.in_order low k lk kn low_there k_there)
      (λ ln here. absurd (true_false _ here gone)) high below lt high_there;
  above = below_more (λ k. IsTrue (there k) → value k ≤ highest) n (λ k kn k_there. h.above k kn k_there) (λ here. absurd (true_false _ here gone));
  reached = elim h.reached [ inl z ↦ inl z | inr w ↦ inr (w.0, omega (arith, w.1), w.2, w.3) ];
}

-- the next one is not below the last that is there, where they are in order
pub no_drop : (there : ℕ → Bool) (value : ℕ → ℕ) (n highest : ℕ) → IsOrderedTo there value n highest → IsTrue (there n) → value n < highest
    → ((low : ℕ) → low < n → IsTrue (there low) → value low ≤ value n) → ⊥
no_drop there value n highest h here drop order =
    elim h.reached [ inl z ↦ omega arith | inr w ↦ (let le : value w.0 ≤ value n = order w.0 w.1 w.2 in let is : value w.0 ≡ highest = w.3 in omega arith) ]
