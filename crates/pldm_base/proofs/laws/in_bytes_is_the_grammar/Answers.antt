use Rattle.pldm_base.proofs.InBytes.{request-in, request-in_back, reply-in, reply-in_back}
use Rattle.pldm_base.proofs.laws.in_bytes_is_the_grammar.Goals as goal

pub returns-clause-request : goal.returns-clause-request
returns-clause-request c = λ r bytes. (request-in r bytes, request-in_back r bytes)

pub returns-clause-reply : goal.returns-clause-reply
returns-clause-reply c = λ r bytes. (reply-in r bytes, reply-in_back r bytes)
