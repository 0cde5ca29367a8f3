-- The packet error code, byte by byte.
use Rattle.std.proofs.Common.{◌≡◌, ℕ, ◌+◌, ◌-◌, ◌^◌, ◌<◌, ◌≤◌, Bool, true, List, [], ◌∷◌, ◌++◌, length, reverse, map, take, drop, get_or, refl, sym, ◌∙◌, ap, subst, arith, append_assoc, length-append}
use Rattle.std.specs.List.{flat_map, range_with_len}
use Rattle.std.specs.Prelude.{bit_xor}
use Rattle.std.proofs.Math.Dec.{ltb}
use Rattle.std.proofs.Math.ListN.{get_or-map}
use Rattle.std.proofs.lemmas.Bool.{ltb-true}
use Rattle.std.proofs.Math.Seq.{take-length}
use Rattle.std.proofs.lemmas.List.{reverse-reverse, length-reverse, length-drop}
use Rattle.std.proofs.lemmas.List.FromFn.{get_or-map-range_with_len}
use Rattle.std.proofs.lemmas.Nat.{xor_lt}
use Rattle.two_wire.specs.Bits.{bits, highest_first, number_of}
use Rattle.two_wire.specs.Polynomial.{zeros, plus, scaled, divide, IsRemainder, remainder_of}
use Rattle.two_wire.specs.Pec.{divisor, dividend, IsPec, pec}
use Rattle.two_wire.specs.declared.packet_error.TheConstants.{REMAINDERS, BEFORE_ONE, BEFORE_TWO, BEFORE_THREE}
use Rattle.two_wire.proofs.Bits.{bits-xor, same_from_highest, bits-number_of, number_of-lt}
use Rattle.two_wire.proofs.Division.{plus-comm, plus-zeros, plus-append, divides, divide-plus, divide-zeros, divide-on, one-remainder}

-- the divisor's coefficients below the highest
abbrev below : List Bool
below = highest_first 8 0x07

divisor-is : divisor ≡ true ∷ below
unfolding divisor bits
divisor-is = refl

length-byte : (x : ℕ) → length (highest_first 8 x) ≡ 8
unfolding bits
length-byte x = refl

length-dividend : (bytes : List ℕ) → length (dividend bytes) ≡ length (flat_map (highest_first 8) bytes) + 8
unfolding dividend
length-dividend bytes = length-append (flat_map (highest_first 8) bytes) (zeros 8)

-- the bits of what differs are the sum of the bits
byte-xor : (a b : ℕ) → highest_first 8 (bit_xor a b) ≡ plus (highest_first 8 a) (highest_first 8 b)
byte-xor a b =
    let each : reverse (plus (bits 8 a) (bits 8 b)) ≡ plus (highest_first 8 a) (highest_first 8 b) = (unfold bits plus in refl) in
    ap reverse (bits-xor 8 a b) ∙ each

-- a byte added to the front of others
byte-front : (a b : ℕ) (rest : List Bool) → plus (highest_first 8 a) (highest_first 8 b ++ rest) ≡ plus (highest_first 8 a) (highest_first 8 b) ++ rest
unfolding bits plus
byte-front a b rest = refl

-- a byte's remainder
table_is : map (highest_first 8) REMAINDERS ≡ map (λ x. divide 8 (true ∷ below) (highest_first 8 x ++ zeros 8)) (range_with_len 0 256)
unfolding bits divide plus scaled
table_is = refl

read : (x : ℕ) → x < 256 → highest_first 8 (get_or REMAINDERS x 0) ≡ divide 8 (true ∷ below) (highest_first 8 x ++ zeros 8)
read x h =
    sym (get_or-map (highest_first 8) REMAINDERS x 0) ∙ ap (λ t. get_or t x (highest_first 8 0)) table_is
    ∙ get_or-map-range_with_len (λ x. divide 8 (true ∷ below) (highest_first 8 x ++ zeros 8)) 0 256 x x (highest_first 8 0) h (omega arith)

-- a byte before eight bits or more goes, and its remainder is added to them
divide-byte : (x : ℕ) (rest : List Bool) → x < 256 → 8 ≤ length rest
    → divide 8 (true ∷ below) (highest_first 8 x ++ rest) ≡ plus (highest_first 8 (get_or REMAINDERS x 0)) rest
divide-byte x rest h long =
    let b : List Bool = highest_first 8 x in
    let eight : length b ≡ 8 = length-byte x in
    let seven : length below ≡ 8 = length-byte 0x07 in
    let front : plus b (zeros 8) ≡ b = plus-comm b (zeros 8) ∙ plus-zeros 8 b (omega arith) in
    let behind : plus (zeros 8) rest ≡ rest = plus-zeros 8 rest long in
    let parts : plus (b ++ zeros 8) (zeros 8 ++ rest) ≡ b ++ rest =
    plus-append b (zeros 8) (zeros 8) rest eight ∙ ap (λ (xs : List Bool). xs ++ plus (zeros 8) rest) front ∙ ap (λ (xs : List Bool). b ++ xs) behind in
    ap (divide 8 (true ∷ below)) (sym parts)
    ∙ divide-plus 8 below (b ++ zeros 8) (zeros 8 ++ rest) (omega (arith, length-append b (zeros 8))) (omega (arith, length-append (zeros 8) rest))
    ∙ ap (λ (xs : List Bool). plus (divide 8 (true ∷ below) (b ++ zeros 8)) xs) (divide-zeros 8 below rest (omega arith))
    ∙ ap (λ (xs : List Bool). plus xs rest) (sym (read x h))

-- what is left of the bytes, where a code was added to their front
unfoldable pub left_of : ℕ → List ℕ → List Bool
left_of code bytes = divide (length (flat_map (highest_first 8) bytes)) (true ∷ below) (plus (highest_first 8 code) (dividend bytes))

dividend-cons : (byte : ℕ) (bytes : List ℕ) → dividend (byte ∷ bytes) ≡ highest_first 8 byte ++ dividend bytes
unfolding dividend
dividend-cons byte bytes = append_assoc (highest_first 8 byte) (flat_map (highest_first 8) bytes) (zeros 8)

-- one byte more
left_of-step : (code byte : ℕ) (rest : List ℕ) → bit_xor code byte < 256 → left_of (get_or REMAINDERS (bit_xor code byte) 0) rest ≡ left_of code (byte ∷ rest)
unfolding left_of
left_of-step code byte rest h =
    let x : ℕ = bit_xor code byte in
    let others : List Bool = flat_map (highest_first 8) rest in
    let long : 8 ≤ length (dividend rest) = omega (arith, length-dividend rest) in
    let front : plus (highest_first 8 code) (dividend (byte ∷ rest)) ≡ highest_first 8 x ++ dividend rest =
    ap (plus (highest_first 8 code)) (dividend-cons byte rest) ∙ byte-front code byte (dividend rest) ∙ ap (λ (xs : List Bool). xs ++ dividend rest) (sym (byte-xor code byte)) in
    let times : length (highest_first 8 byte ++ others) ≡ 8 + length others = omega (arith, length-append (highest_first 8 byte) others, length-byte byte) in
    sym (
    ap (divide (length (highest_first 8 byte ++ others)) (true ∷ below)) front
    ∙ divide-on 8 (length others) (length (highest_first 8 byte ++ others)) (true ∷ below) (highest_first 8 x ++ dividend rest) times
    ∙ ap (divide (length others) (true ∷ below)) (divide-byte x (dividend rest) h long))

-- a byte's remainder, as a byte
abbrev left : ℕ → ℕ
left x = get_or REMAINDERS x 0

are_small : map (λ b. ltb b 256) REMAINDERS ≡ map (λ x. true) (range_with_len 0 256)
are_small = refl

small : (x : ℕ) → x < 256 → left x < 256
small x h =
    ltb-true (left x) 256 (sym (get_or-map (λ b. ltb b 256) REMAINDERS x 0) ∙ ap (λ t. get_or t x true) are_small
    ∙ get_or-map-range_with_len (λ y. true) 0 256 x x true h (omega arith))

-- the remainder of what differs is what differs of the remainders
zeros-twice : plus (zeros 8) (zeros 8) ≡ zeros 8
unfolding plus
zeros-twice = refl

left-xor : (a b : ℕ) → a < 256 → b < 256 → left (bit_xor a b) ≡ bit_xor (left a) (left b)
left-xor a b low also =
    let p : List Bool = true ∷ below in
    let long : (x : ℕ) → 8 + length below ≤ length (highest_first 8 x ++ zeros 8) = λ x. omega (arith, length-append (highest_first 8 x) (zeros 8), length-byte x, length-byte 0x07) in
    let parts : highest_first 8 (bit_xor a b) ++ zeros 8 ≡ plus (highest_first 8 a ++ zeros 8) (highest_first 8 b ++ zeros 8) =
    ap (λ (xs : List Bool). xs ++ zeros 8) (byte-xor a b)
    ∙ sym (plus-append (highest_first 8 a) (highest_first 8 b) (zeros 8) (zeros 8) (omega (arith, length-byte a, length-byte b))
    ∙ ap (λ (xs : List Bool). plus (highest_first 8 a) (highest_first 8 b) ++ xs) zeros-twice) in
    same_from_highest 8 (left (bit_xor a b)) (bit_xor (left a) (left b))
    (small (bit_xor a b) (xor_lt 8 a b low also)) (xor_lt 8 (left a) (left b) (small a low) (small b also))
    (read (bit_xor a b) (xor_lt 8 a b low also) ∙ ap (divide 8 p) parts
    ∙ divide-plus 8 below (highest_first 8 a ++ zeros 8) (highest_first 8 b ++ zeros 8) (long a) (long b)
    ∙ sym (byte-xor (left a) (left b) ∙ ap (λ (xs : List Bool). plus xs (highest_first 8 (left b))) (read a low) ∙ ap (plus (divide 8 p (highest_first 8 a ++ zeros 8))) (read b also)))

-- what is left of a byte before others is what is left of its remainder before one fewer
one_is : map (λ x. left (left x)) (range_with_len 0 256) ≡ BEFORE_ONE
one_is = refl

two_is : map (λ x. left (get_or BEFORE_ONE x 0)) (range_with_len 0 256) ≡ BEFORE_TWO
two_is = refl

three_is : map (λ x. left (get_or BEFORE_TWO x 0)) (range_with_len 0 256) ≡ BEFORE_THREE
three_is = refl

before-one : (x : ℕ) → x < 256 → get_or BEFORE_ONE x 0 ≡ left (left x)
before-one x h = ap (λ t. get_or t x 0) (sym one_is) ∙ get_or-map-range_with_len (λ y. left (left y)) 0 256 x x 0 h (omega arith)

before-two : (x : ℕ) → x < 256 → get_or BEFORE_TWO x 0 ≡ left (left (left x))
before-two x h =
    ap (λ t. get_or t x 0) (sym two_is) ∙ get_or-map-range_with_len (λ y. left (get_or BEFORE_ONE y 0)) 0 256 x x 0 h (omega arith) ∙ ap left (before-one x h)

before-three : (x : ℕ) → x < 256 → get_or BEFORE_THREE x 0 ≡ left (left (left (left x)))
before-three x h =
    ap (λ t. get_or t x 0) (sym three_is) ∙ get_or-map-range_with_len (λ y. left (get_or BEFORE_TWO y 0)) 0 256 x x 0 h (omega arith) ∙ ap left (before-two x h)

-- four bytes one by one, or each by itself
left-four : (x b c d : ℕ) → x < 256 → b < 256 → c < 256 → d < 256
    → left (bit_xor (left (bit_xor (left (bit_xor (left x) b)) c)) d)
    ≡ bit_xor (bit_xor (bit_xor (get_or BEFORE_THREE x 0) (get_or BEFORE_TWO b 0)) (get_or BEFORE_ONE c 0)) (left d)
left-four x b c d first second third fourth =
    let x1 : left x < 256 = small x first in
    let x2 : left (left x) < 256 = small (left x) x1 in
    let x3 : left (left (left x)) < 256 = small (left (left x)) x2 in
    let b1 : left b < 256 = small b second in
    let b2 : left (left b) < 256 = small (left b) b1 in
    let c1 : left c < 256 = small c third in
    let two : left (bit_xor (left x) b) ≡ bit_xor (left (left x)) (left b) = left-xor (left x) b x1 second in
    let three : left (bit_xor (bit_xor (left (left x)) (left b)) c) ≡ bit_xor (bit_xor (left (left (left x))) (left (left b))) (left c) =
    left-xor (bit_xor (left (left x)) (left b)) c (xor_lt 8 (left (left x)) (left b) x2 b1) third
    ∙ ap (λ n. bit_xor n (left c)) (left-xor (left (left x)) (left b) x2 b1) in
    let all : left (bit_xor (bit_xor (left (left (left x))) (left (left b))) (left c))
    ≡ bit_xor (bit_xor (left (left (left (left x)))) (left (left (left b)))) (left (left c)) =
    left-xor (bit_xor (left (left (left x))) (left (left b))) (left c) (xor_lt 8 (left (left (left x))) (left (left b)) x3 b2) c1
    ∙ ap (λ n. bit_xor n (left (left c))) (left-xor (left (left (left x))) (left (left b)) x3 b2) in
    ap (λ n. left (bit_xor (left (bit_xor n c)) d)) two
    ∙ ap (λ n. left (bit_xor n d)) three
    ∙ left-xor (bit_xor (bit_xor (left (left (left x))) (left (left b))) (left c)) d
    (xor_lt 8 (bit_xor (left (left (left x))) (left (left b))) (left c) (xor_lt 8 (left (left (left x))) (left (left b)) x3 b2) c1) fourth
    ∙ ap (λ n. bit_xor n (left d)) all
    ∙ sym (λ i. bit_xor (bit_xor (bit_xor (before-three x first i) (before-two b second i)) (before-one c third i)) (left d))

-- so four bytes more
after-four : (code a b c d : ℕ) (rest : List ℕ) → code < 256 → a < 256 → b < 256 → c < 256 → d < 256
    → left_of (bit_xor (bit_xor (bit_xor (get_or BEFORE_THREE (bit_xor code a) 0) (get_or BEFORE_TWO b 0)) (get_or BEFORE_ONE c 0)) (get_or REMAINDERS d 0)) rest
    ≡ left_of code (a ∷ b ∷ c ∷ d ∷ rest)
after-four code a b c d rest low first second third fourth =
    let x : ℕ = bit_xor code a in
    let x0 : x < 256 = xor_lt 8 code a low first in
    let y : ℕ = bit_xor (left x) b in
    let y0 : y < 256 = xor_lt 8 (left x) b (small x x0) second in
    let z : ℕ = bit_xor (left y) c in
    let z0 : z < 256 = xor_lt 8 (left y) c (small y y0) third in
    let w0 : bit_xor (left z) d < 256 = xor_lt 8 (left z) d (small z z0) fourth in
    ap (λ n. left_of n rest) (sym (left-four x b c d x0 second third fourth))
    ∙ left_of-step (left z) d rest w0 ∙ left_of-step (left y) c (d ∷ rest) z0 ∙ left_of-step (left x) b (c ∷ d ∷ rest) y0 ∙ left_of-step code a (b ∷ c ∷ d ∷ rest) x0

-- what stands behind the first bytes of a list
pub behind : (n : ℕ) (bytes : List ℕ) → take (length bytes - n) (drop n bytes) ≡ drop n bytes
behind n bytes = ap (λ (k : ℕ). take k (drop n bytes)) (sym (length-drop n bytes)) ∙ take-length (drop n bytes)

-- one byte more of a list, or four
pub left_of-next : (code x : ℕ) (bytes : List ℕ) → 1 ≤ length bytes → code < 256 → ((i : ℕ) → get_or bytes i 0 < 256) → x ≡ bit_xor code (get_or bytes 0 0)
    → left_of (get_or REMAINDERS x 0) (drop 1 bytes) ≡ left_of code bytes
left_of-next code x [] long low all is = absurd (omega arith)
left_of-next code x (a ∷ rest) long low all is =
    ap (λ n. left_of (get_or REMAINDERS n 0) rest) is ∙ left_of-step code a rest (xor_lt 8 code a low (all 0))

pub left_of-four : (code x y z w : ℕ) (bytes : List ℕ) → 4 ≤ length bytes → code < 256 → ((i : ℕ) → get_or bytes i 0 < 256)
    → x ≡ bit_xor code (get_or bytes 0 0) → y ≡ get_or bytes 1 0 → z ≡ get_or bytes 2 0 → w ≡ get_or bytes 3 0
    → left_of (bit_xor (bit_xor (bit_xor (get_or BEFORE_THREE x 0) (get_or BEFORE_TWO y 0)) (get_or BEFORE_ONE z 0)) (get_or REMAINDERS w 0)) (drop 4 bytes)
    ≡ left_of code bytes
left_of-four code x y z w (a ∷ b ∷ c ∷ d ∷ rest) long low all first second third fourth =
    (λ i. left_of (bit_xor (bit_xor (bit_xor (get_or BEFORE_THREE (first i) 0) (get_or BEFORE_TWO (second i) 0)) (get_or BEFORE_ONE (third i) 0)) (get_or REMAINDERS (fourth i) 0)) rest)
    ∙ after-four code a b c d rest low (all 0) (all 1) (all 2) (all 3)
left_of-four code x y z w [] long low all first second third fourth = absurd (omega arith)
left_of-four code x y z w (a ∷ []) long low all first second third fourth = absurd (omega arith)
left_of-four code x y z w (a ∷ b ∷ []) long low all first second third fourth = absurd (omega arith)
left_of-four code x y z w (a ∷ b ∷ c ∷ []) long low all first second third fourth = absurd (omega arith)

-- long division takes eight steps for each byte, and leaves the remainder
steps-are : (bytes : List ℕ) → remainder_of divisor (dividend bytes) ≡ divide (length (dividend bytes) - 8) (true ∷ below) (dividend bytes)
unfolding divisor bits
steps-are bytes = refl

divided : (bytes : List ℕ) → IsRemainder divisor (dividend bytes) (remainder_of divisor (dividend bytes))
divided bytes =
    let P : List Bool → Type 0 = λ p. IsRemainder p (dividend bytes) (remainder_of divisor (dividend bytes)) in
    let Q : List Bool → Type 0 = λ r. IsRemainder (true ∷ below) (dividend bytes) r in
    let all : length (dividend bytes) ≡ length (dividend bytes) - 8 + length below = omega (arith, length-dividend bytes, length-byte 0x07) in
    subst P (sym divisor-is) (subst Q (sym (steps-are bytes)) (divides (length (dividend bytes) - 8) below (dividend bytes) all))

-- which is what is left of the whole list
byte-zero : highest_first 8 0 ≡ zeros 8
unfolding bits
byte-zero = refl

left_of-all : (bytes : List ℕ) → left_of 0 bytes ≡ remainder_of divisor (dividend bytes)
unfolding left_of
left_of-all bytes =
    let same : plus (highest_first 8 0) (dividend bytes) ≡ dividend bytes =
    ap (λ (xs : List Bool). plus xs (dividend bytes)) byte-zero ∙ plus-zeros 8 (dividend bytes) (omega (arith, length-dividend bytes)) in
    let times : length (flat_map (highest_first 8) bytes) ≡ length (dividend bytes) - 8 = omega (arith, length-dividend bytes) in
    ap (divide (length (flat_map (highest_first 8) bytes)) (true ∷ below)) same
    ∙ ap (λ n. divide n (true ∷ below) (dividend bytes)) times ∙ sym (steps-are bytes)

left_of-none : (code : ℕ) → left_of code [] ≡ highest_first 8 code
unfolding left_of dividend divide
left_of-none code = plus-comm (highest_first 8 code) (zeros 8) ∙ plus-zeros 8 (highest_first 8 code) (omega (arith, length-byte code))

-- when no byte is left, the code is the whole list's
pub left_of-end : (code : ℕ) (none bytes : List ℕ) → code < 256 → length none ≤ 0 → left_of code none ≡ left_of 0 bytes → IsPec bytes code
left_of-end code (x ∷ others) bytes small past same = absurd (omega arith)
left_of-end code [] bytes small past same =
    let is : highest_first 8 code ≡ remainder_of divisor (dividend bytes) = sym (left_of-none code) ∙ same ∙ left_of-all bytes in
    record { small = small; divided = (let P : List Bool → Type 0 = λ r. IsRemainder divisor (dividend bytes) r in subst P (sym is) (divided bytes)) }

-- all bytes have a packet error code
pub has_pec : (bytes : List ℕ) → IsPec bytes (pec bytes)
unfolding pec
has_pec bytes =
    let found : List Bool = remainder_of divisor (dividend bytes) in
    let long : length (reverse found) ≡ 8 = omega (arith, length-reverse found, (divided bytes).lower, ap length divisor-is, length-byte 0x07) in
    let S : ℕ → Type 0 = λ n. number_of (reverse found) < 2 ^ n in
    let B : ℕ → Type 0 = λ n. bits n (number_of (reverse found)) ≡ reverse found in
    let spelled : highest_first 8 (number_of (reverse found)) ≡ found = ap reverse (subst B long (bits-number_of (reverse found))) ∙ reverse-reverse found in
    let P : List Bool → Type 0 = λ r. IsRemainder divisor (dividend bytes) r in
    record { small = subst S long (number_of-lt (reverse found)); divided = subst P (sym spelled) (divided bytes) }

-- and no other
pub one-pec : (bytes : List ℕ) (code check : ℕ) → IsPec bytes code → IsPec bytes check → code ≡ check
one-pec bytes code check h k =
    let P : ℕ → List Bool → Type 0 = λ n p. IsRemainder p (dividend bytes) (highest_first 8 n) in
    same_from_highest 8 code check h.small k.small
    (one-remainder below (dividend bytes) (highest_first 8 code) (highest_first 8 check) (subst (P code) divisor-is h.divided) (subst (P check) divisor-is k.divided))
