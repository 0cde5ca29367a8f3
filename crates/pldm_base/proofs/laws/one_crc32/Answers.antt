use Rattle.pldm_base.proofs.Register.{one-crc32}
use Rattle.pldm_base.proofs.laws.one_crc32.Goals as goal

pub returns : goal.returns
returns c = one-crc32
