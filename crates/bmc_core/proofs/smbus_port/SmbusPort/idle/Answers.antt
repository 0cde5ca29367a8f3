use Rattle.bmc_core.specs.SmbusShown.{pldm_reading}
use Rattle.bmc_core.proofs.smbus_port.SmbusPort.idle.Goals as goal

pub returns-clause-keeps : goal.returns-clause-keeps
returns-clause-keeps c p shows =
    record { wire = shows.wire; eid = shows.eid; kept = shows.kept; log = record { kept = c.idle.ensures.keeps pldm_reading p.log shows.log.kept; replies = shows.log.replies } }

pub returns-clause-had : goal.returns-clause-had
returns-clause-had c p shows = c.idle.ensures.had pldm_reading p.log shows.log.kept
