use Rattle.std.proofs.Common.{List, String, subst, sym}
use Rattle.std.specs.declared.alloc.Global.{Global}
use Rattle.record_base.specs.declared.op.Op.{Op}
use Rattle.app_show.specs.Plans.{ArePlans, plans_of}
use Rattle.app_show.proofs.Files.{plans_more}
use Rattle.app_show.proofs.writing.plan_texts.Goals as goal

pub returns : goal.returns
returns c =
    subst (λ (texts : List (String Global)). ArePlans texts (plans_of c.args.backup.now)) (sym c.in_ok-push.ensures.items)
    (plans_more c.in-Some.texts.items c.args.backup.now.full.items c.in-Some-last.text c.args.backup.now.last
    (subst (λ (plans : List (List Op)). ArePlans c.in-Some.texts.items plans) c.as_slice.ensures.value (rw c.in-Some.is at c.in_ok-texts.ensures))
    (rw c.in-Some-last.is at c.in_ok-last.ensures))
