use Rattle.std.proofs.Common.{arith}
use Rattle.std.proofs.lemmas.Grind.{common_steps}
use Rattle.pldm_base.proofs.Register.{takes_one, takes_zero}
use Rattle.pldm_base.proofs.crc.with_bit.Goals as goal

pub returns-then-register-eq1 : goal.returns-then-register-eq1
returns-then-register-eq1 c = takes_one c.args.register c.ranges.register.fits (grind (arith, common_steps))

pub returns-else-register-eq1 : goal.returns-else-register-eq1
returns-else-register-eq1 c = takes_zero c.args.register c.ranges.register.fits (grind (arith, common_steps))
