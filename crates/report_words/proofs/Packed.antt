-- Characters of six bits, one more.
use Rattle.std.proofs.Common.{◌≡◌, ℕ, zero, suc, ◌+◌, List, [], ◌∷◌, ◌++◌, sym, ◌∙◌, ap, arith}
use Rattle.report_words.specs.SensorNames.{packed_at, packed_from, packed_text}

from_more : (count : ℕ) (bytes : List ℕ) (place : ℕ) → packed_from (suc count) bytes place ≡ packed_from count bytes place ++ packed_at bytes (place + count) ∷ []
from_more zero bytes place = let same : place ≡ place + 0 = omega arith in ap (λ (n : ℕ). packed_at bytes n ∷ []) same
from_more (suc count) bytes place =
    let same : suc place + count ≡ place + suc count = omega arith in
    ap (λ (l : List ℕ). packed_at bytes place ∷ l) (from_more count bytes (suc place) ∙ ap (λ (n : ℕ). packed_from count bytes (suc place) ++ packed_at bytes n ∷ []) same)

pub text_more : (count : ℕ) (bytes : List ℕ) → packed_text bytes count ++ packed_at bytes count ∷ [] ≡ packed_text bytes (count + 1)
text_more count bytes =
    let at : count ≡ 0 + count = omega arith in
    let more : suc count ≡ count + 1 = omega arith in
    ap (λ (n : ℕ). packed_from count bytes 0 ++ packed_at bytes n ∷ []) at ∙ sym (from_more count bytes 0) ∙ ap (λ (n : ℕ). packed_from n bytes 0) more
