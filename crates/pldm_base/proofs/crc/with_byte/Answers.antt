use Rattle.std.proofs.Common.{◌≡◌, ◌+◌, ◌-◌, List, Bool, false, ◌∷◌, ◌++◌, refl, sym, ◌∙◌, ap, arith, length-append}
use Rattle.std.specs.Int.Bits.{bit_xor}
use Rattle.two_wire.specs.Polynomial.{zeros}
use Rattle.two_wire.specs.Bits.{bits}
use Rattle.pldm_base.specs.Register.{loaded}
use Rattle.pldm_base.proofs.Register.{same_reduces, then_reduces, byte_added, zero_less}
use Rattle.pldm_base.proofs.crc.with_byte.Goals as goal

pub loop-init : goal.loop-init
loop-init c = λ rest long. same_reduces _ _ refl

pub loop-preserved : goal.loop-preserved
loop-preserved c = λ rest long.
    let behind : List Bool = zeros (8 - (c.loop.counter + 1)) ++ rest in
    let more : loaded c.loop.next (zeros (8 - c.loop.counter) ++ rest) ≡ loaded c.loop.next (false ∷ behind) =
    ap (loaded c.loop.next) (zero_less c.loop.counter rest (omega arith)) in
    then_reduces _ _ _ (c.loop.invariant rest long)
    (then_reduces _ _ _ (same_reduces _ _ more) (c.with_bit-next.ensures behind (omega (arith, length-append (zeros (8 - (c.loop.counter + 1))) rest))))

pub returns : goal.returns
returns c = λ rest long.
    let added : loaded c.args.register (bits 8 c.args.byte ++ rest) ≡ loaded (bit_xor c.args.register c.from.result) (zeros 8 ++ rest) =
    byte_added c.args.register c.args.byte rest (omega arith) long ∙ ap (λ b. loaded (bit_xor c.args.register b) (zeros 8 ++ rest)) (sym c.from.ensures) in
    let done : loaded c.loop.next (zeros (8 - c.loop.counter) ++ rest) ≡ loaded c.loop.next rest =
    (let none : 8 - c.loop.counter ≡ 0 = omega arith in rw none refl) in
    then_reduces _ _ _ (same_reduces _ _ added) (then_reduces _ _ _ (c.loop.invariant rest long) (same_reduces _ _ done))
