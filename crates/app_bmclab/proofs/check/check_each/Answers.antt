use Rattle.std.proofs.Common.{subst}
use Rattle.app_bmclab.specs.Checks.{FileOutcome}
use Rattle.app_bmclab.proofs.Checks.{next_checked}
use Rattle.app_bmclab.proofs.check.check_each.Goals as goal

pub loop-word-preserved : goal.loop-word-preserved
loop-word-preserved g c =
    let gives = g.F.TextFiles.gives c.args.files.now in
    let here = subst (λ word. FileOutcome gives c.args.said word c.in_ok-outcome.outcome) c.as_str.ensures.value c.in_ok-outcome.ensures in
    rw c.in_ok-push.ensures.items
    (next_checked gives c.args.said c.args.words.now c.loop-word.word-index c.word-item.result c.loop-word.outcomes.items c.in_ok-outcome.outcome c.loop-word-test.true c.word-item.is c.loop-word.invariant here)
