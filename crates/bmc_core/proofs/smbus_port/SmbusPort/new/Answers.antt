use Rattle.std.proofs.Common.{refl, sym}
use Rattle.bmc_core.specs.SmbusShown.{pldm_reading}
use Rattle.bmc_core.proofs.smbus_port.SmbusPort.new.Goals as goal

pub returns : goal.returns
returns c = record { wire = refl; eid = sym c.new.ensures; kept = sym c.in_ok-new.ensures; log = record { kept = c.in_ok-new-2.ensures pldm_reading; replies = tt } }
