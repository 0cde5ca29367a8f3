-- The codes of an operation on a record that may not be there.
use Rattle.std.proofs.Common.{◌≡◌, ℕ, List, Option, Some, None, Err, subst}
use Rattle.record_base.specs.declared.op.Op.{Op}
use Rattle.record_kinds.specs.declared.limits.Limits.{Limits}
use Rattle.record_kinds.specs.LimitsLaws as laws
use Rattle.record_kinds.specs.Sets.{set_outcome}
use Rattle.bmc_board.specs.AnyAnswer.{IsCode}
use Rattle.bmc_board.proofs.LiveFacts.{refusal_code}

-- a refusal has a code that isn't a busy controller's
pub outcome_code : (limits : Option Limits) (value : Option (List ℕ)) (unknown : ℕ) (op : Op) (code : ℕ) → IsCode unknown → set_outcome limits value unknown op ≡ Err code → IsCode code
outcome_code (Some l) (Some old) unknown op code is e = refusal_code code ((laws.record_laws l).refuses op old code e)
outcome_code (Some l) None unknown op code is e = let same : unknown ≡ code = cc in subst IsCode same is
outcome_code None (Some old) unknown op code is e = let same : unknown ≡ code = cc in subst IsCode same is
outcome_code None None unknown op code is e = let same : unknown ≡ code = cc in subst IsCode same is
