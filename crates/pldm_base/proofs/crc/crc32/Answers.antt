use Rattle.std.proofs.Common.{◌≡◌, ◌+◌, ◌++◌, [], get_or, drop, ap, arith}
use Rattle.std.proofs.lemmas.List.{drop_all}
use Rattle.two_wire.specs.Bits.{bits}
use Rattle.pldm_base.specs.Crc.{lengthened}
use Rattle.pldm_base.specs.Register.{loaded}
use Rattle.pldm_base.proofs.Register.{same_reduces, then_reduces, register_starts, register_is, lengthened-drop, length-lengthened}
use Rattle.pldm_base.proofs.crc.crc32.Goals as goal

pub loop-byte-init : goal.loop-byte-init
loop-byte-init c = (omega arith, same_reduces _ _ (register_starts c.args.bytes.now))

pub loop-byte-preserved : goal.loop-byte-preserved
loop-byte-preserved c =
    let behind = lengthened (drop (c.loop-byte.byte-index + 1) c.args.bytes.now) in
    let front : loaded c.loop-byte.register (lengthened (drop c.loop-byte.byte-index c.args.bytes.now))
    ≡ loaded c.loop-byte.register (bits 8 (get_or c.args.bytes.now c.loop-byte.byte-index 0) ++ behind) =
    ap (loaded c.loop-byte.register) (lengthened-drop c.args.bytes.now c.loop-byte.byte-index c.loop-byte-test.true) in (
      c.with_byte-register.type_inv,
      then_reduces _ _ _ c.loop-byte.invariant.1
          (then_reduces _ _ _ (same_reduces _ _ front) (c.with_byte-register.ensures behind (length-lengthened _))),
    )

pub returns : goal.returns
returns c =
    let none : drop c.loop-byte.byte-index c.args.bytes.now ≡ [] = drop_all c.loop-byte.byte-index c.args.bytes.now c.loop-byte-test.false in
    register_is c.args.bytes.now c.loop-byte.register c.loop-byte.invariant.0 (rw none at c.loop-byte.invariant.1)
