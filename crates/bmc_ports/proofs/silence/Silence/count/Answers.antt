use Rattle.bmc_ports.proofs.Silent.{counts_nobody, counts_one}
use Rattle.bmc_ports.proofs.silence.Silence.count.Goals as goal

pub returns-in-Some : goal.returns-in-Some
returns-in-Some c =
    counts_one c.args.on c.args.heard.now c.args.self.now c.count_more.new.self c.clear.new.self c.count_more.ensures c.in-Some.from c.in-Some.ensures
    c.clear.ensures.cleared c.clear.ensures.others

pub returns-in-None : goal.returns-in-None
returns-in-None c =
    counts_nobody c.args.on c.args.heard.now c.args.self.now c.count_more.new.self c.count_more.new.self c.count_more.ensures c.in-None.ensures
