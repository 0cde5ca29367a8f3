use Rattle.std.proofs.Common.{arith}
use Rattle.mctp_net.proofs.Cuts.{run_is}
use Rattle.mctp_net.proofs.splitting.run.Goals as goal

pub returns-clause-value : goal.returns-clause-value
returns-clause-value c = run_is c.args.body.now _ _ (omega arith) c.min.ensures
