use Rattle.bmc_ports.proofs.Greeting.{begun_by, goes_on, sent_again}
use Rattle.bmc_ports.proofs.greeter.begin.Goals as goal

pub returns-in-Ok : goal.returns-in-Ok
returns-in-Ok c = begun_by c.args.greeting.now c.start.new.self c.in-Ok.first c.args.greeting.now.stage c.in-Ok.ensures

pub returns-in-Ok-again : goal.returns-in-Ok-again
returns-in-Ok-again c = sent_again c.args.greeting.now c.start.new.self c.again.new.self c.in-Ok-again.sent _ c.in-Err.ensures c.in-Ok-again.ensures

pub returns-in-Err-again : goal.returns-in-Err-again
returns-in-Err-again c = goes_on c.args.greeting.now c.start.new.self c.again.new.self _ _ c.in-Err.ensures c.in-Err-again.ensures
