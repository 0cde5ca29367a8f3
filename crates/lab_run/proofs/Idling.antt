-- A port forgets a requester's window.
use Rattle.std.proofs.Common.{◌≡◌, ◌≢◌, ℕ, ◌+◌, List, ◌∷◌, arith}
use Rattle.std.proofs.lemmas.Bool.Decides.{nat_tests}
use Rattle.two_wire.specs.declared.Bus.{Bus}
use Rattle.two_wire.specs.declared.Bus.TheVariants as bus
use Rattle.cfg_records.specs.declared.board_file.BoardFile.{BoardFile}
use Rattle.model_bus.specs.Request.{Entry, Idled, idles_of}
use Rattle.bmc_core.specs.declared.ipmb_port.IpmbPort.{IpmbPort}
use Rattle.bmc_core.specs.declared.smbus_port.SmbusPort.{SmbusPort}
use Rattle.bmc_core.specs.IpmbShown as ipmb
use Rattle.bmc_core.specs.SmbusShown as smbus
use Rattle.bmc_core.specs.PortSteps.{idles}
use Rattle.model_lab.specs.Lab.{Lab as LabModel, idles_on, with_port}
use Rattle.model_lab.specs.Played.{plans}
use Rattle.lab_run.specs.declared.lab_state.Lab.{Lab}
use Rattle.lab_run.specs.Shown.{Represents, idles_in}

-- the requester's window was forgotten once more
pub one_more : (q own : ℕ) (log : List Entry) (n : ℕ) → q ≡ own → idles_of own log ≡ n → idles_of own (Idled q ∷ log) ≡ n + 1
one_more q own log n is was = grind (arith, nat_tests)

-- another's was
pub no_more : (q own : ℕ) (log : List Entry) (n : ℕ) → q ≢ own → idles_of own log ≡ n → idles_of own (Idled q ∷ log) ≡ n
no_more q own log n other was = grind (arith, nat_tests)

module _ (file : BoardFile) (lab : Lab) (x : LabModel plans) (shows : Represents file lab x) (q n : ℕ) where
  -- that was on IPMB
  pub forgot_ipmb : (port : IpmbPort) → ipmb.Represents port (idles q x.ipmb) → idles_of x.manager.names.own_address (Idled q ∷ x.ipmb.log) ≡ n
      → Represents file (record lab { ipmb = port; idles = record lab.idles { ipmb = n } }) (with_port plans bus.Ipmb (idles q x.ipmb) x)
  forgot_ipmb port keeps counted = record { setup = shows.setup; board = shows.board; ipmb = keeps; smbus = shows.smbus; manager = shows.manager; named = shows.named; frames = shows.frames; idles = now } where
    now : (on : Bus) → idles_on plans on (with_port plans bus.Ipmb (idles q x.ipmb) x) ≡ idles_in on (record lab.idles { ipmb = n })
    now bus.Ipmb = counted
    now bus.Smbus = shows.idles bus.Smbus

  -- that was on the System Management Bus
  pub forgot_smbus : (port : SmbusPort) → smbus.Represents port (idles q x.smbus) → idles_of x.manager.names.own_eid (Idled q ∷ x.smbus.log) ≡ n
      → Represents file (record lab { smbus = port; idles = record lab.idles { smbus = n } }) (with_port plans bus.Smbus (idles q x.smbus) x)
  forgot_smbus port keeps counted = record { setup = shows.setup; board = shows.board; ipmb = shows.ipmb; smbus = keeps; manager = shows.manager; named = shows.named; frames = shows.frames; idles = now } where
    now : (on : Bus) → idles_on plans on (with_port plans bus.Smbus (idles q x.smbus) x) ≡ idles_in on (record lab.idles { smbus = n })
    now bus.Ipmb = shows.idles bus.Ipmb
    now bus.Smbus = counted
