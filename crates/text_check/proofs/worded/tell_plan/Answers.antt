use Rattle.std.proofs.Common.{inr, refl, string_bytes}
use Rattle.text_check.specs.declared.text_form.TextForm.TheVariants as looks
use Rattle.text_check.specs.Worded.{AreWords}
use Rattle.text_check.proofs.FaultyWords.{plan_bad}
use Rattle.text_check.proofs.Lined.{on_ok, tells_nothing}
use Rattle.text_check.proofs.worded.tell_plan.Goals as goal

pub returns-in-Err : goal.returns-in-Err
returns-in-Err c =
    on_ok c.unread_plan.result _ _
    (λ other. tells_nothing (AreWords looks.Plan c.args.source.name.now c.args.source.file.now) (string_bytes c.args.text.now)
    (inr ((c.in-Err.why, plan_bad c.args.source.file.now c.read_plan.result c.in-Err.why c.read_plan.ensures c.in-Err.is other), refl)))
    c.unread_plan.ensures
