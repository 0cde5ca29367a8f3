use Rattle.pldm_base.proofs.Tables.{one-parts}
use Rattle.pldm_base.proofs.laws.one_list_of_parts.Goals as goal

pub returns : goal.returns
returns c = one-parts
