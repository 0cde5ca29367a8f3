use Rattle.pldm_base.proofs.Register.{has_crc32}
use Rattle.pldm_base.proofs.laws.all_bytes_have_a_crc32.Goals as goal

pub returns : goal.returns
returns c = has_crc32
