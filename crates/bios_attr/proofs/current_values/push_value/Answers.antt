use Rattle.std.proofs.Common.{arith}
use Rattle.bios_attr.proofs.current_values.push_value.Goals as goal

pub returns-clause-small : goal.returns-clause-small
returns-clause-small c = λ i. let fits = c.type_inv.value i in omega (arith, fits)
