use Rattle.std.proofs.Common.{arith}
use Rattle.text_lines.proofs.schedule_writing.digits_of.Goals as goal

pub returns-clause-small : goal.returns-clause-small
returns-clause-small c i = omega (arith, c.type_inv.bytes i)
