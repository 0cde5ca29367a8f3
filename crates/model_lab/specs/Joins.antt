-- That no packet joins a packet that has waited too long, by a count of requests.
use Rattle.std.specs.Prelude.{◌≡◌, ◌+◌, ◌≤◌, false, List, [], ◌∷◌, None, slice_get, IfSome}
use Rattle.two_wire.specs.declared.Bus.TheVariants.{Smbus}
use Rattle.mctp_net.specs.Assembly.{drop_cause}
use Rattle.model_bus.specs.Circle.{span_of}
use Rattle.cfg_records.specs.declared.board_file.BoardFile.{BoardFile}
use Rattle.bmc_core.specs.Values.{Value, Asks, Tells, Part}
use Rattle.model_lab.specs.ManagerSteps.{Plans}
use Rattle.model_lab.specs.Lab.{Event, ToBmc, Lab, step}
use Rattle.model_lab.specs.Faults.{begun_on}

module _ (plans : Plans) where
  -- A packet that the port takes and that is no start joins packets of the request whose start came last under its tag. Since that request no
  -- more requests of the manager than the span were begun on SMBus.
  abbrev pub JoinsLive : Lab plans → Value → Type 0
  JoinsLive lab (Asks request) = Unit {0}
  JoinsLive lab (Tells response) = Unit {0}
  JoinsLive lab (Part packet) = packet.start ≡ false → packet.envelope.destination ≡ lab.smbus.wire → drop_cause lab.smbus.eid lab.smbus.kept packet ≡ None
      → begun_on plans.words Smbus lab.manager.machine ≤ lab.opened packet.envelope.tag + span_of Smbus

  -- the event brings the port no packet that joins a packet which has waited longer
  abbrev pub IsJoinLive : Lab plans → Event → Type 0
  IsJoinLive lab (ToBmc number) = IfSome (slice_get lab.frames number) (λ frame. JoinsLive lab frame.value)
  IsJoinLive lab _ = Unit {0}

  -- no event of a schedule brings such a packet, where it happens
  abbrev pub AllJoinLive : BoardFile → List Event → Lab plans → Type 0
  AllJoinLive setup [] lab = Unit {0}
  AllJoinLive setup (event ∷ events) lab = IsJoinLive lab event × AllJoinLive setup events (step plans setup lab event)
