use Rattle.ipmb_frame.proofs.Uniqueness.{same-bytes_one, same-bytes_one_frame}
use Rattle.ipmb_frame.proofs.laws.same_bytes_same_frame.Goals as goal

pub returns : goal.returns
returns c = record {
  request = same-bytes_one;
  frame = same-bytes_one_frame;
}
