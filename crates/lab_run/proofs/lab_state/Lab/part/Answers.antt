use Rattle.std.proofs.Common.{◌∙◌, sym, ap}
use Rattle.lab_run.specs.Shown.{IsSentFrame}
use Rattle.lab_run.specs.Parts.{part_in, part_at}
use Rattle.lab_run.proofs.Sent.{beside, none_beside}
use Rattle.lab_run.proofs.lab_state.Lab.part.Goals as goal

pub returns-in_default-get : goal.returns-in_default-get
returns-in_default-get c file x shows = ap (part_in x) (sym (none_beside IsSentFrame c.args.self.now.frames x.frames c.in-ToBmc.number shows.frames c.in_default-get.ensures.none)) ∙ ap (part_at x) (sym c.in-ToBmc.is)

pub returns : goal.returns
returns c file x shows =
    let s = c.in-Some.frame.now in
    let at = beside IsSentFrame c.args.self.now.frames x.frames c.in-ToBmc.number s shows.frames c.in-Some.ensures.some in
    c.part_of.ensures file x at.0 shows at.2 ∙ ap (part_in x) (sym at.1) ∙ ap (part_at x) (sym c.in-ToBmc.is)
