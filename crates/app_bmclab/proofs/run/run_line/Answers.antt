use Rattle.std.proofs.Common.{inl, map, string_bytes}
use Rattle.app_base.specs.EndingLaws.{run_ends_as}
use Rattle.app_bmclab.specs.Run.{SaysOfLine, SaysOfWords}
use Rattle.app_bmclab.proofs.run.run_line.Goals as goal

pub returns-in-Ok : goal.returns-in-Ok
returns-in-Ok g c =
    run_ends_as g.W.Write.contents g.E.Write.contents (SaysOfWords (g.F.TextFiles.gives c.args.files.now) c.in-Ok.asked)
    (SaysOfLine (g.F.TextFiles.gives c.args.files.now) (map string_bytes c.args.words.now))
    c.args.console.now c.carry_out.new.console c.carry_out.result
    (λ stream text status said. inl (c.in-Ok.asked, c.in-Ok.ensures.asked, said))
    c.carry_out.ensures
