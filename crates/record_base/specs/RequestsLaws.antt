-- Runs of bytes of a request's data.
use Rattle.std.specs.Prelude.{◌≡◌, ℕ, zero, suc, List, [], ◌∷◌, length, refl}
use Rattle.std.proofs.Common.{ap, subst, ◌∙◌}
use Rattle.record_base.specs.Requests.{byte_at, bytes_at}

-- a byte in front moves all others by one place
pub shifted : (count first : ℕ) (body : List ℕ) (place : ℕ) → bytes_at count (first ∷ body) (suc place) ≡ bytes_at count body place
shifted zero first body place = refl
shifted (suc count) first body place = ap (λ (bytes : List ℕ). byte_at body place ∷ bytes) (shifted count first body (suc place))

all_bytes : (body : List ℕ) → bytes_at (length body) body 0 ≡ body
all_bytes [] = refl
all_bytes (first ∷ body) = ap (λ (bytes : List ℕ). first ∷ bytes) (shifted (length body) first body 0 ∙ all_bytes body)

-- as many bytes as there are, from the first on, are all
pub whole : (body : List ℕ) (count : ℕ) → length body ≡ count → bytes_at count body 0 ≡ body
whole body count is = subst (λ (n : ℕ). bytes_at n body 0 ≡ body) is (all_bytes body)
