use Rattle.std.proofs.Common.{subst, sym}
use Rattle.app_base.specs.Ending.{RunEnds}
use Rattle.app_bmclab.specs.Run.{SaysOfWords}
use Rattle.app_bmclab.proofs.run.carry_out.Goals as goal

pub returns-in-Play : goal.returns-in-Play
returns-in-Play g c =
    subst (λ words. RunEnds g.W.Write.contents g.E.Write.contents (SaysOfWords (g.F.TextFiles.gives c.args.files.now) words) c.args.console.now c.play.new.console c.play.result)
    (sym c.in-Play.is)
    c.play.ensures

pub returns-in-Schedule : goal.returns-in-Schedule
returns-in-Schedule g c =
    subst (λ words. RunEnds g.W.Write.contents g.E.Write.contents (SaysOfWords (g.F.TextFiles.gives c.args.files.now) words) c.args.console.now c.write.new.console c.write.result)
    (sym c.in-Schedule.is)
    c.write.ensures
