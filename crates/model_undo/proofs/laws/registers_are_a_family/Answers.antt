use Rattle.model_undo.proofs.laws.registers_are_a_family.Goals as goal
use Rattle.model_undo.proofs.Registers.{registers_are_family}

pub returns : goal.returns
returns c = registers_are_family
