use Rattle.pldm_base.proofs.Tables.{part-at, part-begins, part-last}
use Rattle.pldm_base.proofs.laws.parts_stand_at_their_offsets.Goals as goal

pub returns : goal.returns
returns c = record {
  begins = part-begins;
  bytes = part-at;
  last = part-last;
}
