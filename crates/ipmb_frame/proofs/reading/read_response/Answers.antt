use Rattle.std.proofs.Common.{arith, rules}
use Rattle.std.proofs.lemmas.Grind.{common_steps}
use Rattle.ipmb_frame.proofs.Places.{response_is}
use Rattle.ipmb_frame.proofs.reading.read_response.Goals as goal

pub returns : goal.returns
returns c =
    response_is _ _
    (search rules) c.requires.faultless (λ i. omega (arith, c.type_inv.bytes i))
    (search rules) (grind (arith, common_steps))
    (search rules) (grind (arith, common_steps)) (search rules) (grind (arith, common_steps))
