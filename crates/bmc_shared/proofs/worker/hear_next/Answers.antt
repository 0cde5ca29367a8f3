use Rattle.std.proofs.Common.{rules}
use Rattle.bmc_shared.proofs.Turning.{gives_frame, gives_none, heard_frame}
use Rattle.bmc_shared.proofs.worker.hear_next.Goals as goal

pub returns-in-Ok-Frame-clause-gives : goal.returns-in-Ok-Frame-clause-gives
returns-in-Ok-Frame-clause-gives g c =
    let gave = c.in-Ok-Frame.ensures in
    gives_frame g.L.Link c.in-Ok-Frame.field-0 _ c.args.link.now c.next.new.self (record { gave = gave.gave; counted = gave.counted }) c.in-Ok-Frame.field-0-is

pub returns-in-Ok-Frame-clause-counts : goal.returns-in-Ok-Frame-clause-counts
returns-in-Ok-Frame-clause-counts g c =
    heard_frame c.in-Ok-Frame.field-0 _ (g.L.Link.counts_of c.args.link.now) (g.L.Link.counts_of c.next.new.self) c.in-Ok-Frame.ensures.counted c.in-Ok-Frame.field-0-is

pub returns-in-Ok-Quiet-clause-gives : goal.returns-in-Ok-Quiet-clause-gives
returns-in-Ok-Quiet-clause-gives g c =
    gives_none g.L.Link c.next.result c.args.link.now c.next.new.self (record { gave = c.next.ensures.gave; counted = c.next.ensures.counted }) (search rules)
