-- Scripts with a frame that is too long.
use Rattle.std.proofs.Common.{◌<◌, ℕ, List, [], Bor, All, length, map, arith, sym, subst, slice_index_or}
use Rattle.std.proofs.lemmas.List.{get_or-map, length-map}
use Rattle.two_wire.specs.Sizes.{most_frame_bytes}
use Rattle.wire_links.specs.Scripts.{lists_in, fits}

-- where one is, not all fit
pub has_a_long_one : (script : List (Bor (List ℕ))) (place : ℕ) (d : Bor (List ℕ)) → place < length script → most_frame_bytes < length (slice_index_or script place d).now
    → All fits (lists_in script) → ⊥
has_a_long_one script place d within long all =
    let shown : Bor (List ℕ) → List ℕ = λ bytes. bytes.now in
    let is_there : place < length (map shown script) = subst (λ (n : ℕ). place < n) (sym (length-map script shown)) within in
    let fit : fits (shown (slice_index_or script place d)) = subst fits (get_or-map shown script place d [] within) (all place [] is_there) in
    omega (arith, fit, long)
