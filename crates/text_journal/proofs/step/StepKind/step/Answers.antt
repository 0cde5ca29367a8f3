use Rattle.std.proofs.Common.{Some, sym, ◌∙◌, ap}
use Rattle.text_journal.specs.JournalSteps.{step_of}
use Rattle.text_journal.proofs.step.StepKind.step.Goals as goal

pub returns-in-UserName : goal.returns-in-UserName
returns-in-UserName c = ap (λ o. Some o) c.op_in-in-UserName.ensures ∙ sym (ap (λ k. step_of k c.args.body.now) c.in-UserName.is)
