use Rattle.record_base.specs.MaskLaws.{is_false}
use Rattle.text_fields.proofs.Members.{same_lengths}
use Rattle.text_fields.proofs.states.can_all_be.Goals as goal

pub returns-then-states-lists : goal.returns-then-states-lists
returns-then-states-lists c = is_false _ (λ all. c.if-states-lists.true (same_lengths c.args.lists.now c.args.states.now all))
