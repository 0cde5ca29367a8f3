-- Runs of bytes of a request's data, as they are copied.
use Rattle.std.proofs.Common.{◌≡◌, ℕ, zero, suc, ◌+◌, ◌<◌, List, [], ◌∷◌, ◌++◌, length, take, ap, sym, ◌∙◌, arith}
use Rattle.std.proofs.Math.ListN.{set}
use Rattle.std.proofs.lemmas.List.{take_more_set}
use Rattle.record_base.specs.Requests.{byte_at, bytes_at}

-- a run of one byte more has one more at its end
one_more : (count : ℕ) (body : List ℕ) (place : ℕ) → bytes_at (suc count) body place ≡ bytes_at count body place ++ byte_at body (place + count) ∷ []
one_more zero body place =
    let same : place ≡ place + 0 = omega arith in
    ap (λ (at : ℕ). byte_at body at ∷ []) same
one_more (suc count) body place =
    let same : suc place + count ≡ place + suc count = omega arith in
    ap (λ (bytes : List ℕ). byte_at body place ∷ bytes)
    (one_more count body (suc place) ∙ ap (λ (at : ℕ). bytes_at count body (suc place) ++ byte_at body at ∷ []) same)

-- one more byte is copied
pub copied_more : (bytes body : List ℕ) (place count : ℕ) → count < length bytes → take count bytes ≡ bytes_at count body place
    → take (count + 1) (set bytes count (byte_at body (place + count))) ≡ bytes_at (count + 1) body place
copied_more bytes body place count within so_far =
    let next : suc count ≡ count + 1 = omega arith in
    take_more_set bytes count (byte_at body (place + count)) within
    ∙ (ap (λ (front : List ℕ). front ++ byte_at body (place + count) ∷ []) so_far
    ∙ (sym (one_more count body place)
    ∙ ap (λ (n : ℕ). bytes_at n body place) next))
