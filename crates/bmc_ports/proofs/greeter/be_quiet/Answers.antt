use Rattle.undo_plans.specs.Greeter.{quiet_at}
use Rattle.bmc_ports.proofs.Greeting.{called_by, refused_by}
use Rattle.bmc_ports.proofs.greeter.be_quiet.Goals as goal

pub returns-in-Ok : goal.returns-in-Ok
returns-in-Ok c = called_by c.args.greeting.now c.quiet.new.self c.in-Ok.sent (quiet_at c.args.greeting.now c.args.greeting.now.stage) c.in-Ok.ensures

pub returns-in-Err : goal.returns-in-Err
returns-in-Err c = refused_by c.args.greeting.now c.quiet.new.self _ (quiet_at c.args.greeting.now c.args.greeting.now.stage) c.in-Err.ensures
