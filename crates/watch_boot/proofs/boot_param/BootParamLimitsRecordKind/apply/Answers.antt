use Rattle.std.proofs.Common.{◌≡◌, List, ℕ, Result, Ok, subst, rules}
use Rattle.record_base.specs.Meaning.{DecidesValue}
use Rattle.watch_boot.specs.BootParam.{SetsBootParam, boot_outcome}
use Rattle.watch_boot.specs.BootParamLaws.{record_laws}
use Rattle.watch_boot.proofs.boot_param.BootParamLimitsRecordKind.apply.Goals as goal

pub returns-clause-decides : goal.returns-clause-decides
returns-clause-decides c =
    let parameter = c.args.self.now.parameter in
    let made : boot_outcome parameter c.args.op.now c.args.value.now ≡ Ok c.match-op.new = search rules in
    subst (λ (r : Result (List ℕ) ℕ). DecidesValue r (SetsBootParam parameter c.args.op.now c.args.value.now)) made ((record_laws parameter).decides c.args.op.now c.args.value.now)
