use Rattle.std.proofs.Common.{◌≡◌, List, ℕ, Result, Ok, Err, subst, rules}
use Rattle.two_wire.specs.Codes.{invalid_data_field}
use Rattle.record_base.specs.Meaning.{DecidesValue}
use Rattle.sensor_recs.specs.EventEnable.{events_outcome, record_words}
use Rattle.sensor_recs.specs.EventEnableLaws.{record_laws}
use Rattle.sensor_recs.proofs.event_enable.EventEnableLimitsRecordKind.apply.Goals as goal

pub returns-then-not-takes-clause-decides : goal.returns-then-not-takes-clause-decides
returns-then-not-takes-clause-decides c =
    let supported : ℕ = c.args.self.now.supported in
    let refused : events_outcome supported c.args.op.now c.args.value.now ≡ Err invalid_data_field = search rules in
    subst (λ (r : Result (List ℕ) ℕ). DecidesValue r ((record_words supported).sets c.args.op.now c.args.value.now)) refused ((record_laws supported).decides c.args.op.now c.args.value.now)

pub returns-clause-decides : goal.returns-clause-decides
returns-clause-decides c =
    let supported : ℕ = c.args.self.now.supported in
    let made : events_outcome supported c.args.op.now c.args.value.now ≡ Ok c.replace.new.self = search rules in
    subst (λ (r : Result (List ℕ) ℕ). DecidesValue r ((record_words supported).sets c.args.op.now c.args.value.now)) made ((record_laws supported).decides c.args.op.now c.args.value.now)
