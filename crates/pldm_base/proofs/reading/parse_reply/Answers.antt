use Rattle.std.proofs.Common.{arith, rules}
use Rattle.std.proofs.lemmas.Grind.{common_steps}
use Rattle.pldm_base.proofs.Messages.{reply_is}
use Rattle.pldm_base.proofs.reading.parse_reply.Goals as goal

pub returns-clause-read : goal.returns-clause-read
returns-clause-read c =
    reply_is _ _
    (search rules) (search rules)
    (search rules) (search rules) (grind (arith, common_steps)) (search rules) (search rules)
    (search rules) (search rules)
