-- Bytes with their checksum.
use Rattle.std.proofs.Common.{◌≡◌, ℕ, ◌+◌, ◌-◌, ◌<◌, List, [], ◌∷◌, ◌++◌, length, take, get_or, sum, sym, ◌∙◌, ap, arith, length-append}
use Rattle.std.proofs.lemmas.List.{take_more}
use Rattle.std.proofs.lemmas.List.Sums.{sum_by_push}
use Rattle.std.proofs.Math.Seq.{take-length, take-append_seam}
use Rattle.two_wire.specs.Check.{check_byte}
use Rattle.ipmb_frame.specs.Grammar.{checked}

-- the sum of the list with one more byte
sum-push : (front : List ℕ) (last : ℕ) → sum (front ++ last ∷ []) ≡ sum front + last
sum-push front last = sum_by_push (λ x. x) front last

-- bytes with their checksum add up to 0
pub check_byte-checked : (xs : List ℕ) → check_byte (checked xs) ≡ 0
check_byte-checked xs = omega (arith, sum-push xs (check_byte xs))

-- the last byte is the checksum of those before it, where all of them add up to 0
pub check_byte-front : (front : List ℕ) (last : ℕ) → last < 256 → check_byte (front ++ last ∷ []) ≡ 0 → check_byte front ≡ last
check_byte-front front last small balanced = omega (arith, sum-push front last)

-- bytes that add up to 0 are those before the last one, with their checksum
pub checked-front : (bytes : List ℕ) → 0 < length bytes → ((i : ℕ) → get_or bytes i 0 < 256) → check_byte bytes ≡ 0 → checked (take (length bytes - 1) bytes) ≡ bytes
checked-front bytes some small balanced =
    let n : ℕ = length bytes - 1 in
    let whole : take n bytes ++ get_or bytes n 0 ∷ [] ≡ bytes = sym (take_more bytes n 0 (omega arith)) ∙ (let e : n + 1 ≡ length bytes = omega arith in rw e (take-length bytes)) in
    let last : check_byte (take n bytes) ≡ get_or bytes n 0 = check_byte-front (take n bytes) (get_or bytes n 0) (small n) (rw whole balanced) in
    rw last whole

-- a list with one more element has one front
push-front : (xs ys : List ℕ) (x y : ℕ) → xs ++ x ∷ [] ≡ ys ++ y ∷ [] → xs ≡ ys
push-front xs ys x y e =
    let n : length xs ≡ length ys = omega (arith, length-append xs (x ∷ []), length-append ys (y ∷ []), ap length e) in
    sym (take-append_seam xs (x ∷ [])) ∙ (rw (n, e) (take-append_seam ys (y ∷ [])))

-- a list with its checksum is of one list
pub checked-one : (xs ys : List ℕ) → checked xs ≡ checked ys → xs ≡ ys
checked-one xs ys e = push-front xs ys (check_byte xs) (check_byte ys) e
