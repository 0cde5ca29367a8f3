use Rattle.std.proofs.Common.{refl}
use Rattle.bmc_core.specs.IpmbShown.{reading, whole}
use Rattle.bmc_core.proofs.ipmb_port.IpmbPort.new.Goals as goal

pub returns : goal.returns
returns c eid = record {
  wire = refl;
  log = record {
    keeps = c.in_ok-new.ensures reading;
    frames = record { log = _; keeps = c.in_ok-new.ensures whole; answered = tt };
  };
}
