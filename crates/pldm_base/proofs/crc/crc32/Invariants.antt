use Rattle.std.proofs.Common.{drop, ◌<◌, ◌^◌}
use Rattle.pldm_base.specs.Crc.{dividend, lengthened}
use Rattle.pldm_base.specs.Register.{ReducesTo, loaded}
use Rattle.pldm_base.proofs.crc.crc32.Given as goal

abbrev pub invariant-loop-byte : goal.invariant-loop-byte
invariant-loop-byte l = (l.register < 2 ^ 32) × ReducesTo (dividend l.bytes) (loaded l.register (lengthened (drop l.byte-index l.bytes)))
