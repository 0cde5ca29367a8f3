use Rattle.std.proofs.Common.{subst}
use Rattle.app_base.specs.declared.console.Stream.{Stream}
use Rattle.app_base.specs.Ending.{RunEnds}
use Rattle.app_apply.specs.Ends.{SaysOn}
use Rattle.app_change.proofs.changing.say_for.Goals as goal

pub returns : goal.returns
returns g c =
    subst (λ (stream : Stream). RunEnds g.W.Write.contents g.E.Write.contents (SaysOn stream c.args.status) c.args.console.now c.say_on.new.console c.say_on.result) c.stream_for.ensures
    c.say_on.ensures
