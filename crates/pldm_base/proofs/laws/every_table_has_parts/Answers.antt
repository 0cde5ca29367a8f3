use Rattle.pldm_base.proofs.Tables.{has_parts}
use Rattle.pldm_base.proofs.laws.every_table_has_parts.Goals as goal

pub returns : goal.returns
returns c = has_parts
