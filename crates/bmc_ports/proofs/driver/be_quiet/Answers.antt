use Rattle.std.proofs.Common.{Ok, Err}
use Rattle.bmc_ports.proofs.DriveCalls.{quiet_comes}
use Rattle.bmc_ports.proofs.driver.be_quiet.Goals as goal

pub returns-in-Ok : goal.returns-in-Ok
returns-in-Ok c names s shows = quiet_comes names s c.quiet.new.self (Ok c.in-Ok.sent) (c.in-Ok.ensures names s shows)

pub returns-in-Err : goal.returns-in-Err
returns-in-Err c names s shows = quiet_comes names s c.quiet.new.self (Err c.in-Err.field-0) (c.in-Err.ensures names s shows)
