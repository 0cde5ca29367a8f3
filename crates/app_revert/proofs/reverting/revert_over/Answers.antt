use Rattle.std.proofs.Common.{Ok, Err, inr, subst}
use Rattle.app_base.specs.declared.console.Stream.{Stream}
use Rattle.app_base.specs.declared.status.Status.{Status}
use Rattle.app_base.specs.Ending.{RunEnds}
use Rattle.app_run.specs.Ends.{PrintsNothing}
use Rattle.app_run.proofs.Telling.{says_memory}
use Rattle.app_apply.specs.Ends.{SaysOn, stream_for}
use Rattle.app_revert.specs.Revert.{LacksPort}
use Rattle.app_revert.proofs.reverting.revert_over.Goals as goal

pub returns-in-Ok-clause-ends : goal.returns-in-Ok-clause-ends
returns-in-Ok-clause-ends g c =
    inr (
      subst (LacksPort c.args.manager c.args.words.now.reach) c.if-lacks_port.false c.lacks_port.ensures,
      Ok c.in-Ok.reverted,
      c.in-Ok.ensures.comes,
      subst (λ (status : Status). RunEnds g.W.Write.contents g.E.Write.contents (SaysOn (stream_for c.args.words.now.json) status) c.args.console.now c.say_on.new.console c.say_on.result)
          c.status-status.ensures
          (subst (λ (on : Stream). RunEnds g.W.Write.contents g.E.Write.contents (SaysOn on c.status-status.result) c.args.console.now c.say_on.new.console c.say_on.result)
          c.stream_for.ensures c.say_on.ensures),
    )

pub returns-in-Err-clause-ends : goal.returns-in-Err-clause-ends
returns-in-Err-clause-ends g c =
    inr (
      subst (LacksPort c.args.manager c.args.words.now.reach) c.if-lacks_port.false c.lacks_port.ensures,
      Err c.in-Err.field-0,
      c.in-Err.ensures.comes,
      says_memory g.W.Write.contents g.E.Write.contents PrintsNothing c.args.console.now c.end_run.new.console c.end_run.result c.end_run.ensures,
    )
