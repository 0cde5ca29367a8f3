use Rattle.lab_run.proofs.Coming.{bus_shown, no_bus}
use Rattle.lab_run.proofs.lab_state.Lab.bus_of.Goals as goal

pub returns-in_default : goal.returns-in_default
returns-in_default c file x shows = no_bus file c.args.self.now x c.args.number shows c.in_default.ensures.none

pub returns : goal.returns
returns c file x shows = bus_shown file c.args.self.now x c.args.number shows c.in-Some.frame.now c.in-Some.ensures.some
