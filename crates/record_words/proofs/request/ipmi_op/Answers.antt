use Rattle.std.proofs.Common.{◌≡◌, ◌+◌, ◌*◌, Some, sym, ap, ◌∙◌, arith}
use Rattle.two_wire.specs.declared.Bus.TheVariants.{Ipmb}
use Rattle.text_journal.specs.JournalSteps.{step_named}
use Rattle.record_words.proofs.request.ipmi_op.Goals as goal

pub returns-in-24-eq69 : goal.returns-in-24-eq69
returns-in-24-eq69 c =
    let first : c.args.net_fn * 4 + c.args.lun ≡ 24 = omega (arith, c.in-24-eq69.is-0, c.number.ensures.value, c.number-2.ensures.value) in
    ap Some c.op_in-in-24-eq69.ensures ∙ sym (λ i. step_named (record { bus = Ipmb; first = first i; command = c.in-24-eq69.is-1 i }) c.args.body.now)
