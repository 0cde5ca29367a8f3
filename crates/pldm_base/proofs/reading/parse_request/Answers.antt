use Rattle.std.proofs.Common.{arith, rules}
use Rattle.std.proofs.lemmas.Grind.{common_steps}
use Rattle.pldm_base.proofs.Messages.{request_is}
use Rattle.pldm_base.proofs.reading.parse_request.Goals as goal

pub returns-clause-read : goal.returns-clause-read
returns-clause-read c =
    request_is _ _
    (search rules) (search rules)
    (search rules) (search rules) (grind (arith, common_steps)) (search rules) (search rules)
    (search rules)
