use Rattle.std.proofs.Common.{◌≡◌, List, ℕ, Result, Ok, Err, subst, rules}
use Rattle.two_wire.specs.Codes.{invalid_data_field}
use Rattle.record_base.specs.Meaning.{DecidesValue}
use Rattle.sensor_recs.specs.Thresholds.{thresholds_outcome, record_words}
use Rattle.sensor_recs.specs.ThresholdsLaws.{record_laws}
use Rattle.sensor_recs.proofs.thresholds.ThresholdLimitsRecordKind.apply.Goals as goal

pub returns-then-not-is_within-clause-decides : goal.returns-then-not-is_within-clause-decides
returns-then-not-is_within-clause-decides c =
    let masks = c.args.self.now.masks in
    let refused : thresholds_outcome masks c.args.op.now c.args.value.now ≡ Err invalid_data_field = search rules in
    subst (λ (r : Result (List ℕ) ℕ). DecidesValue r ((record_words masks).sets c.args.op.now c.args.value.now)) refused ((record_laws masks).decides c.args.op.now c.args.value.now)

pub returns-clause-decides : goal.returns-clause-decides
returns-clause-decides c =
    let masks = c.args.self.now.masks in
    let made : thresholds_outcome masks c.args.op.now c.args.value.now ≡ Ok c.replace.new.self = search rules in
    subst (λ (r : Result (List ℕ) ℕ). DecidesValue r ((record_words masks).sets c.args.op.now c.args.value.now)) made ((record_laws masks).decides c.args.op.now c.args.value.now)
