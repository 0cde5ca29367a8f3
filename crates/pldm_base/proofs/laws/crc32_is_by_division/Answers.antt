use Rattle.pldm_base.proofs.Register.{crc_is}
use Rattle.pldm_base.proofs.laws.crc32_is_by_division.Goals as goal

pub returns : goal.returns
returns c = crc_is
