use Rattle.std.proofs.Common.{◌≡◌, ℕ, ◌-◌, ◌%◌, ◌≤◌, Bool, true, false, if◌then◌else◌, List, length, take, drop, get_or, refl, sym, ◌∙◌, ap, arith, length-drop, find, Some, None}
use Rattle.std.proofs.lemmas.Bool.{le-ltb}
use Rattle.std.proofs.lemmas.Bool.Decides.{nat_tests}
use Rattle.std.proofs.lemmas.List.{take_all}
use Rattle.two_wire.specs.Check.{check_byte}
use Rattle.ipmb_frame.specs.declared.fault.FrameFault.TheVariants.{Short, Long, HeadSum, BodySum, OddAddress}
use Rattle.ipmb_frame.specs.Fault.{has_fault, faults}
use Rattle.ipmb_frame.proofs.fault.fault_of.Goals as goal
use Rattle.ipmb_frame.proofs.fault.fault_of.Goals.{then-bytes-ne0-via-then-bytes-ne0, then-bytes-ne0-via-else-bytes-ne0+then-bytes-ne0-2}

-- a wrong checksum of the head is found first in bytes of a frame's length
head_first : (bytes : List ℕ) → has_fault bytes Short ≡ false → length bytes ≤ 32 → (check_byte (take 3 bytes) ≡ 0 → ⊥) → Some HeadSum ≡ find (has_fault bytes) faults
head_first bytes short few differs =
    let long : has_fault bytes Long ≡ false = le-ltb 32 (length bytes) few in
    let head : has_fault bytes HeadSum ≡ true = grind (arith, nat_tests) in
    rw (short, long, head) refl

-- then one of the rest
body_second : (bytes : List ℕ) → has_fault bytes Short ≡ false → length bytes ≤ 32 → check_byte (take 3 bytes) ≡ 0
    → (check_byte (take (length bytes - 3) (drop 3 bytes)) ≡ 0 → ⊥) → Some BodySum ≡ find (has_fault bytes) faults
body_second bytes short few head differs =
    let long : has_fault bytes Long ≡ false = le-ltb 32 (length bytes) few in
    let all : take (length bytes - 3) (drop 3 bytes) ≡ drop 3 bytes = take_all (length bytes - 3) (drop 3 bytes) (omega (arith, length-drop 3 bytes)) in
    let wrong : check_byte (drop 3 bytes) ≡ 0 → ⊥ = λ zero. differs (ap check_byte all ∙ zero) in
    let tail : has_fault bytes BodySum ≡ true = grind (arith, nat_tests) in
    rw (short, long, head, tail) refl

-- only the addresses are left where the length and both checksums are right
addresses_last : (bytes : List ℕ) (odd : Bool) → has_fault bytes Short ≡ false → length bytes ≤ 32 → check_byte (take 3 bytes) ≡ 0
    → check_byte (take (length bytes - 3) (drop 3 bytes)) ≡ 0 → has_fault bytes OddAddress ≡ odd
    → (if odd then Some OddAddress else None) ≡ find (has_fault bytes) faults
addresses_last bytes odd short few head body is =
    let long : has_fault bytes Long ≡ false = le-ltb 32 (length bytes) few in
    let all : take (length bytes - 3) (drop 3 bytes) ≡ drop 3 bytes = take_all (length bytes - 3) (drop 3 bytes) (omega (arith, length-drop 3 bytes)) in
    let tail : check_byte (drop 3 bytes) ≡ 0 = ap check_byte (sym all) ∙ body in
    rw (short, long, head, tail, is) refl

odd_at_first : (bytes : List ℕ) → (get_or bytes 0 0 % 2 ≡ 0 → ⊥) → has_fault bytes OddAddress ≡ true
odd_at_first bytes odd = grind (arith, nat_tests)

odd_at_second : (bytes : List ℕ) → (get_or bytes 3 0 % 2 ≡ 0 → ⊥) → has_fault bytes OddAddress ≡ true
odd_at_second bytes odd = grind (arith, nat_tests)

even_at_both : (bytes : List ℕ) → get_or bytes 0 0 % 2 ≡ 0 → get_or bytes 3 0 % 2 ≡ 0 → has_fault bytes OddAddress ≡ false
even_at_both bytes first second = grind (arith, nat_tests)

pub returns-then-check_byte-ne0 : goal.returns-then-check_byte-ne0
returns-then-check_byte-ne0 c =
    head_first c.args.bytes.now (sym c.is_short.ensures ∙ c.if-is_short.false) (omega arith) (λ zero. c.if-check_byte-ne0.true (c.check_byte.ensures.value ∙ zero))

pub returns-then-check_byte-ne0-2 : goal.returns-then-check_byte-ne0-2
returns-then-check_byte-ne0-2 c =
    body_second c.args.bytes.now (sym c.is_short.ensures ∙ c.if-is_short.false) (omega arith) (omega (arith, c.check_byte.ensures.value))
    (λ zero. c.if-check_byte-ne0-2.true (c.check_byte-2.ensures.value ∙ zero))

pub returns-then-bytes-ne0 : goal.returns-then-bytes-ne0
returns-then-bytes-ne0 c =
    addresses_last c.args.bytes.now true (sym c.is_short.ensures ∙ c.if-is_short.false) (omega arith)
    (omega (arith, c.check_byte.ensures.value)) (omega (arith, c.check_byte-2.ensures.value))
    (elim c.then-bytes-ne0.branch [
      | then-bytes-ne0-via-then-bytes-ne0 w ↦ odd_at_first c.args.bytes.now w.if-bytes-ne0.true
      | then-bytes-ne0-via-else-bytes-ne0+then-bytes-ne0-2 w ↦ odd_at_second c.args.bytes.now w.if-bytes-ne0-2.true
    ])

pub returns : goal.returns
returns c =
    addresses_last c.args.bytes.now false (sym c.is_short.ensures ∙ c.if-is_short.false) (omega arith)
    (omega (arith, c.check_byte.ensures.value)) (omega (arith, c.check_byte-2.ensures.value))
    (even_at_both c.args.bytes.now (omega arith) (omega arith))
