use Rattle.std.proofs.Common.{List, length, ap, arith}
use Rattle.record_base.specs.declared.state_effecter.StateField.{StateField}
use Rattle.record_base.specs.StateLaws.{not_as_many}
use Rattle.record_base.proofs.state_effecter.StateEffecter.are_states.Goals as goal

pub returns-then-value-fields : goal.returns-then-value-fields
returns-then-value-fields c = not_as_many c.args.self.now.fields c.args.value.now (omega (arith, ap (λ (fs : List StateField). length fs) c.as_slice-fields.ensures))
