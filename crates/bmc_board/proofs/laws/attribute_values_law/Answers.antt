use Rattle.bmc_board.proofs.AttributeValues.{attributes_have_values}
use Rattle.bmc_board.proofs.laws.attribute_values_law.Goals as goal

pub returns : goal.returns
returns c = attributes_have_values
