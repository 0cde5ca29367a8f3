use Rattle.std.proofs.Common.{subst}
use Rattle.app_base.specs.declared.status.Status.{Status}
use Rattle.app_base.specs.Ending.{RunEnds}
use Rattle.app_apply.specs.Ends.{SaysOn, stream_for}
use Rattle.app_change.proofs.changing.say_applied.Goals as goal

pub returns : goal.returns
returns g c =
    subst (λ (status : Status). RunEnds g.W.Write.contents g.E.Write.contents (SaysOn (stream_for c.args.words.now.json) status) c.args.console.now c.say_for.new.console c.say_for.result)
    c.status-status.ensures c.say_for.ensures
