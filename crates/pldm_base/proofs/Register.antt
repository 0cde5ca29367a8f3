-- The division as the register makes it.
use Rattle.std.proofs.Common.{◌≡◌, ℕ, zero, suc, ◌+◌, ◌-◌, ◌/◌, ◌%◌, ◌^◌, ◌<◌, ◌≤◌, Bool, true, false, not, eqb, List, [], ◌∷◌, ◌++◌, length, map, take, drop, get_or, replicate, drop-cons, add-one, refl, sym, ◌∙◌, ap, subst, arith, append_assoc, length-append, length-drop}
use Rattle.std.proofs.lemmas.List.{length-map, length-take-le}
use Rattle.std.specs.Int.Bits.{bit_xor}
use Rattle.std.specs.List.{flat_map}
use Rattle.two_wire.specs.Polynomial.{differ, zeros, plus, scaled, IsRemainder, divide, remainder_of}
use Rattle.two_wire.specs.Bits.{bits, number_of}
use Rattle.pldm_base.specs.Crc.{divisor, front_inverted, lengthened, dividend, IsCrc32, crc_of}
use Rattle.pldm_base.specs.Register.{loaded, ReducesTo}
use Rattle.two_wire.proofs.Division.{plus-assoc, plus-comm, plus-zeros, plus-longer, plus-append, length-plus, scaled-one, scaled-none, stop, step, divides, one-remainder}
use Rattle.two_wire.proofs.Bits.{length-bits, bits-xor, same_bits, bits-number_of, number_of-lt}
use Rattle.pldm_base.proofs.Bits.{bits-longer, bits-inverted}

-- a register's lowest bit, and those above it
register-front : (width register : ℕ) (rest : List Bool) → plus (bits (suc width) register) (false ∷ rest) ≡ differ (eqb (register % 2) 1) false ∷ plus (bits width (register / 2)) rest
unfolding plus bits
register-front width register rest = refl

-- half a register has a zero at its end
half_register : (width register : ℕ) (rest : List Bool) → register < 2 ^ suc width → suc width ≤ length rest
    → plus (bits (suc width) (register / 2)) rest ≡ plus (bits width (register / 2)) rest
half_register width register rest small long =
    let longer : bits (suc width) (register / 2) ≡ bits width (register / 2) ++ zeros 1 = bits-longer width 1 (suc width) (register / 2) (omega arith) (omega arith) in
    rw longer (plus-longer (bits width (register / 2)) rest 1 (omega (arith, length-bits width (register / 2))))

-- a bit 1 is taken away with the divisor
pub bit_one : (width low register : ℕ) (rest r : List Bool) → register < 2 ^ suc width → register % 2 ≡ 1 → suc width ≤ length rest
    → IsRemainder (true ∷ bits (suc width) low) (plus (bits (suc width) (bit_xor (register / 2) low)) rest) r
    → IsRemainder (true ∷ bits (suc width) low) (plus (bits (suc width) register) (false ∷ rest)) r
bit_one width low register rest r small odd long h =
    let g : List Bool = bits (suc width) low in
    let half : List Bool = bits (suc width) (register / 2) in
    let d : List Bool = plus (bits width (register / 2)) rest in
    let front : plus (bits (suc width) register) (false ∷ rest) ≡ true ∷ d =
    register-front width register rest ∙ ap (λ (n : ℕ). differ (eqb n 1) false ∷ d) odd in
    let after : plus (bits (suc width) (bit_xor (register / 2) low)) rest ≡ plus (scaled true g) d =
    ap (λ (xs : List Bool). plus xs rest) (bits-xor (suc width) (register / 2) low ∙ plus-comm half g)
    ∙ plus-assoc g half rest ∙ ap (plus g) (half_register width register rest small long)
    ∙ ap (λ (xs : List Bool). plus xs d) (sym (scaled-one g)) in
    let P : List Bool → Type 0 = λ xs. IsRemainder (true ∷ g) xs r in
    let within : length g ≤ length d = omega (arith, length-bits (suc width) low, length-bits width (register / 2), length-plus (bits width (register / 2)) rest (omega (arith, length-bits width (register / 2)))) in
    subst P (sym front) (step true g d r within (subst P after h))

-- a bit 0 alone
pub bit_zero : (width low register : ℕ) (rest r : List Bool) → register < 2 ^ suc width → register % 2 ≡ 0 → suc width ≤ length rest
    → IsRemainder (true ∷ bits (suc width) low) (plus (bits (suc width) (register / 2)) rest) r
    → IsRemainder (true ∷ bits (suc width) low) (plus (bits (suc width) register) (false ∷ rest)) r
bit_zero width low register rest r small even long h =
    let g : List Bool = bits (suc width) low in
    let d : List Bool = plus (bits width (register / 2)) rest in
    let front : plus (bits (suc width) register) (false ∷ rest) ≡ false ∷ d =
    register-front width register rest ∙ ap (λ (n : ℕ). differ (eqb n 1) false ∷ d) even in
    let within : length g ≤ length d = omega (arith, length-bits (suc width) low, length-bits width (register / 2), length-plus (bits width (register / 2)) rest (omega (arith, length-bits width (register / 2)))) in
    let after : plus (bits (suc width) (register / 2)) rest ≡ plus (scaled false g) d =
    half_register width register rest small long ∙ sym (plus-zeros (length g) d within)
    ∙ ap (λ (xs : List Bool). plus xs d) (sym (scaled-none g)) in
    let P : List Bool → Type 0 = λ xs. IsRemainder (true ∷ g) xs r in
    subst P (sym front) (step false g d r within (subst P after h))

-- the divisor's coefficients below the highest, in a register
divisor-is : divisor ≡ true ∷ bits 32 0xEDB88320
unfolding divisor bits
divisor-is = refl

pub takes_one : (register : ℕ) → register < 2 ^ 32 → register % 2 ≡ 1 → (rest : List Bool) → 32 ≤ length rest
    → ReducesTo (loaded register (false ∷ rest)) (loaded (bit_xor (register / 2) 0xEDB88320) rest)
unfolding loaded
takes_one register small odd rest long = record {
  remainder = λ r h.
      let P : List Bool → Type 0 = λ p. IsRemainder p (loaded register (false ∷ rest)) r in
      let Q : List Bool → Type 0 = λ p. IsRemainder p (loaded (bit_xor (register / 2) 0xEDB88320) rest) r in
      subst P (sym divisor-is) (bit_one 31 0xEDB88320 register rest r small odd long (subst Q divisor-is h));
}

pub takes_zero : (register : ℕ) → register < 2 ^ 32 → register % 2 ≡ 0 → (rest : List Bool) → 32 ≤ length rest
    → ReducesTo (loaded register (false ∷ rest)) (loaded (register / 2) rest)
unfolding loaded
takes_zero register small even rest long = record {
  remainder = λ r h.
      let P : List Bool → Type 0 = λ p. IsRemainder p (loaded register (false ∷ rest)) r in
      let Q : List Bool → Type 0 = λ p. IsRemainder p (loaded (register / 2) rest) r in
      subst P (sym divisor-is) (bit_zero 31 0xEDB88320 register rest r small even long (subst Q divisor-is h));
}

pub same_reduces : (d e : List Bool) → d ≡ e → ReducesTo d e
same_reduces d e same = record {
  remainder = λ r h. let P : List Bool → Type 0 = λ xs. IsRemainder divisor xs r in subst P (sym same) h;
}

pub then_reduces : (c d e : List Bool) → ReducesTo c d → ReducesTo d e → ReducesTo c e
then_reduces c d e first second = record { remainder = λ r h. first.remainder r (second.remainder r h) }

-- a byte before what follows is added to the register
pub byte_added : (register byte : ℕ) (rest : List Bool) → byte < 2 ^ 8 → 32 ≤ length rest
    → loaded register (bits 8 byte ++ rest) ≡ loaded (bit_xor register byte) (zeros 8 ++ rest)
unfolding loaded
byte_added register byte rest small long =
    let r : List Bool = bits 32 register in
    let b : List Bool = bits 8 byte in
    let longer : bits 32 byte ≡ b ++ zeros 24 = bits-longer 8 24 32 byte refl small in
    let front : plus b (zeros 8) ≡ b = plus-comm b (zeros 8) ∙ plus-zeros 8 b (omega (arith, length-bits 8 byte)) in
    let behind : plus (zeros 24) rest ≡ rest = plus-zeros 24 rest (omega arith) in
    let alone : plus (bits 32 byte) (zeros 8 ++ rest) ≡ b ++ rest =
    ap (λ (xs : List Bool). plus xs (zeros 8 ++ rest)) longer
    ∙ plus-append b (zeros 8) (zeros 24) rest (length-bits 8 byte)
    ∙ ap (λ (xs : List Bool). xs ++ plus (zeros 24) rest) front
    ∙ ap (λ (xs : List Bool). b ++ xs) behind in
    sym (ap (λ (xs : List Bool). plus xs (zeros 8 ++ rest)) (bits-xor 32 register byte)
    ∙ plus-assoc r (bits 32 byte) (zeros 8 ++ rest) ∙ ap (plus r) alone)

-- one zero less
pub zero_less : (k : ℕ) (rest : List Bool) → k < 8 → zeros (8 - k) ++ rest ≡ false ∷ (zeros (8 - (k + 1)) ++ rest)
zero_less k rest within =
    let less : 8 - k ≡ suc (8 - (k + 1)) = omega arith in
    rw less refl

-- ones added to the front invert it
front_inverted-is : (count : ℕ) (xs : List Bool) → count ≤ length xs → front_inverted count xs ≡ plus (replicate count true) xs
unfolding plus
front_inverted-is zero xs within = refl
front_inverted-is (suc count) [] within = absurd (omega arith)
front_inverted-is (suc count) (x ∷ xs) within = ap (λ rest. not x ∷ rest) (front_inverted-is count xs (omega arith))

pub length-lengthened : (bytes : List ℕ) → 32 ≤ length (lengthened bytes)
unfolding lengthened
length-lengthened bytes = omega (arith, length-append (flat_map (bits 8) bytes) (zeros 32))

length-dividend : (bytes : List ℕ) → 32 ≤ length (dividend bytes)
unfolding dividend
length-dividend bytes =
    omega (arith, length-lengthened bytes, length-append (map not (take 32 (lengthened bytes))) (drop 32 (lengthened bytes)), length-map (take 32 (lengthened bytes)) not, length-take-le 32 (lengthened bytes) (length-lengthened bytes), length-drop 32 (lengthened bytes))

-- the register holds ones at the start
pub register_starts : (bytes : List ℕ) → dividend bytes ≡ loaded 0xFFFFFFFF (lengthened bytes)
unfolding dividend loaded
register_starts bytes =
    let ones : bits 32 0xFFFFFFFF ≡ replicate 32 true = (unfold bits in refl) in
    front_inverted-is 32 (lengthened bytes) (length-lengthened bytes) ∙ ap (λ (xs : List Bool). plus xs (lengthened bytes)) (sym ones)

lengthened-cons : (byte : ℕ) (bytes : List ℕ) → lengthened (byte ∷ bytes) ≡ bits 8 byte ++ lengthened bytes
unfolding lengthened
lengthened-cons byte bytes = append_assoc (bits 8 byte) (flat_map (bits 8) bytes) (zeros 32)

-- a byte more stands in front
pub lengthened-drop : (bytes : List ℕ) (i : ℕ) → i < length bytes → lengthened (drop i bytes) ≡ bits 8 (get_or bytes i 0) ++ lengthened (drop (i + 1) bytes)
lengthened-drop bytes i within =
    let front : drop i bytes ≡ get_or bytes i 0 ∷ drop (i + 1) bytes = rw (add-one, drop-cons bytes i 0) refl in
    ap lengthened front ∙ lengthened-cons (get_or bytes i 0) (drop (i + 1) bytes)

-- the register without bytes is the remainder
register_ends : (register : ℕ) → loaded register (lengthened []) ≡ bits 32 register
unfolding loaded lengthened
register_ends register = plus-comm (bits 32 register) (zeros 32) ∙ plus-zeros 32 (bits 32 register) (omega (arith, length-bits 32 register))

-- the register inverted is the CRC-32
pub register_is : (bytes : List ℕ) (register : ℕ) → register < 2 ^ 32 → ReducesTo (dividend bytes) (loaded register (lengthened [])) → IsCrc32 bytes (0xFFFFFFFF - register)
register_is bytes register small reduces = record {
  remainder = bits 32 register;
  divided =
      let P : List Bool → Type 0 = λ p. IsRemainder p (bits 32 register) (bits 32 register) in
      let Q : List Bool → Type 0 = λ xs. IsRemainder divisor xs (bits 32 register) in
      let alone : IsRemainder divisor (bits 32 register) (bits 32 register) =
      subst P (sym divisor-is) (stop (bits 32 0xEDB88320) (bits 32 register) (length-bits 32 register ∙ sym (length-bits 32 0xEDB88320))) in
      reduces.remainder (bits 32 register) (subst Q (sym (register_ends register)) alone);
  small = omega arith;
  spelled = bits-inverted 32 register small;
}

-- bytes have one CRC-32
pub one-crc32 : (bytes : List ℕ) (a b : ℕ) → IsCrc32 bytes a → IsCrc32 bytes b → a ≡ b
one-crc32 bytes a b h k =
    let first : IsRemainder (true ∷ bits 32 0xEDB88320) (dividend bytes) h.remainder = rw (← divisor-is) h.divided in
    let second : IsRemainder (true ∷ bits 32 0xEDB88320) (dividend bytes) k.remainder = rw (← divisor-is) k.divided in
    let same : h.remainder ≡ k.remainder = one-remainder (bits 32 0xEDB88320) (dividend bytes) h.remainder k.remainder first second in
    same_bits 32 a b h.small k.small (h.spelled ∙ ap (map not) same ∙ sym k.spelled)

-- the CRC-32 of a remainder
remainder_crc : (bytes : List ℕ) (r : List Bool) → IsRemainder (true ∷ bits 32 0xEDB88320) (dividend bytes) r → IsCrc32 bytes (number_of (map not r))
remainder_crc bytes r h =
    let long : length (map not r) ≡ 32 = omega (arith, length-map r not, h.lower, length-bits 32 0xEDB88320) in
    let small : number_of (map not r) < 2 ^ 32 =
    (let S : ℕ → Type 0 = λ n. number_of (map not r) < 2 ^ n in subst S long (number_of-lt (map not r))) in
    let spelled : bits 32 (number_of (map not r)) ≡ map not r =
    (let P : ℕ → Type 0 = λ n. bits n (number_of (map not r)) ≡ map not r in subst P long (bits-number_of (map not r))) in
    let Q : List Bool → Type 0 = λ p. IsRemainder p (dividend bytes) r in
    record { remainder = r; divided = subst Q (sym divisor-is) h; small = small; spelled = spelled }

-- long division leaves the remainder
steps-are : (bytes : List ℕ) → remainder_of divisor (dividend bytes) ≡ divide (length (dividend bytes) - 32) (true ∷ bits 32 0xEDB88320) (dividend bytes)
steps-are bytes =
    ap (λ (p : List Bool). divide (length (dividend bytes) - (length p - 1)) p (dividend bytes)) divisor-is
    ∙ ap (λ (n : ℕ). divide (length (dividend bytes) - n) (true ∷ bits 32 0xEDB88320) (dividend bytes)) (omega (arith, length-bits 32 0xEDB88320))

-- all bytes have a CRC-32: that of long division
pub crc_is : (bytes : List ℕ) → IsCrc32 bytes (crc_of bytes)
unfolding crc_of
crc_is bytes =
    let Q : List Bool → Type 0 = λ r. IsRemainder (true ∷ bits 32 0xEDB88320) (dividend bytes) r in
    let divided : Q (divide (length (dividend bytes) - 32) (true ∷ bits 32 0xEDB88320) (dividend bytes)) =
    divides (length (dividend bytes) - 32) (bits 32 0xEDB88320) (dividend bytes) (omega (arith, length-bits 32 0xEDB88320, length-dividend bytes)) in
    remainder_crc bytes (remainder_of divisor (dividend bytes)) (subst Q (sym (steps-are bytes)) divided)

pub has_crc32 : (bytes : List ℕ) → (crc : ℕ) × IsCrc32 bytes crc
has_crc32 bytes = (crc_of bytes, crc_is bytes)
