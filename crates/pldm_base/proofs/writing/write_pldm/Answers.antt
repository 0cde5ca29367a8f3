use Rattle.std.proofs.Common.{refl, arith, rules}
use Rattle.pldm_base.proofs.writing.write_pldm.Goals as goal

pub returns-clause-request : goal.returns-clause-request
returns-clause-request c = λ c. record {
  bit = omega arith;
  header = record { instance = search rules; pldm_type = search rules };
  fits = search rules;
  spelled = refl;
}
