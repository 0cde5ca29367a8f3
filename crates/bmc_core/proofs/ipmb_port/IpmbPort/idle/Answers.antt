use Rattle.bmc_core.specs.IpmbShown.{reading, whole}
use Rattle.bmc_core.proofs.ipmb_port.IpmbPort.idle.Goals as goal

pub returns-clause-keeps : goal.returns-clause-keeps
returns-clause-keeps c p shows = record {
  wire = shows.wire;
  log = record {
    keeps = c.idle.ensures.keeps reading p.log shows.log.keeps;
    frames = record { log = _; keeps = c.idle.ensures.keeps whole shows.log.frames.log shows.log.frames.keeps; answered = shows.log.frames.answered };
  };
}

pub returns-clause-had : goal.returns-clause-had
returns-clause-had c p shows = c.idle.ensures.had reading p.log shows.log.keeps
