use Rattle.std.proofs.Common.{refl, arith, rules}
use Rattle.pldm_base.proofs.writing.write_pldm_reply.Goals as goal

pub returns-clause-reply : goal.returns-clause-reply
returns-clause-reply c = λ c. record {
  bit = omega arith;
  header = record { instance = search rules; pldm_type = search rules };
  fits = search rules;
  spelled = refl;
}
