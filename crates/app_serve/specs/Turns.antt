-- How a board's two ports were served, whatever their links are.
use Rattle.std.specs.Prelude.{◌≡◌, ◌≤◌, ◌⊎◌, ◌++◌, ℕ, false, List, [], ◌∷◌, Option, length}
use Rattle.std.specs.List.{flat_map}
use Rattle.two_wire.specs.declared.Bus.{Bus}
use Rattle.two_wire.specs.declared.Bus.TheVariants as bus
use Rattle.bmc_core.specs.declared.port.Port.{Port}
use Rattle.bmc_core.specs.Port.{bus_of}
use Rattle.bmc_lab.specs.Run.{IsFreshPort}
use Rattle.bmc_shared.specs.declared.event.Call.{Call}
use Rattle.bmc_shared.specs.declared.event.Event.{Event}
use Rattle.bmc_shared.specs.Replay.{calls_of}
use Rattle.bmc_shared.specs.declared.worker.End.{End}
use Rattle.bmc_shared.specs.Serving.{TakesHeard}
use Rattle.bmc_ports.specs.declared.lane.Lane.{Lane}
use Rattle.bmc_ports.specs.declared.silence.Silence.{Silence}
use Rattle.bmc_ports.specs.Silence.{AreCounted, ForgetsRequesters, NobodySilent}
use Rattle.bmc_ports.specs.Since.{Hearing}
use Rattle.bmc_ports.specs.Slices.{IsQuiet, IsQuietFor}
use Rattle.app_serve.specs.declared.run.ServeWords.{ServeWords}

-- a port on this bus that heard nothing yet, with so many turns, behind so many of which in a row it forgets a requester, if it forgets any
pub record IsFreshLane {L : Type 0} (on : Bus) (turns : ℕ) (forget : Option ℕ) (lane : Lane L) : Type 0 where
  pub port : IsFreshPort on lane.port
  pub turns_are : lane.turns ≡ turns
  pub forgets : lane.forget ≡ forget
  pub quiet : lane.quiet ≡ 0
  pub silence : NobodySilent lane.silence

-- A port made a turn: it took what was heard, if a frame was, and got the replies of these calls. Then it forgot those from whom nothing had come
-- for just as many turns as are given, if it forgets any.
pub record PortTurn (forget : Option ℕ) (heard : Hearing) (calls : List Call) (before after : Port) (silence counted : Silence) : Type 0 where
  pub end : End
  pub sent : List (List ℕ)
  pub between : Port
  pub takes : TakesHeard end heard before calls sent between
  pub counts : AreCounted forget (bus_of before) silence (heard ∷ []) counted
  pub forgets : ForgetsRequesters forget counted between after

-- it made such turns, one after another
abbrev pub PortTurns : (forget : Option ℕ) → List Hearing → List Call → (before after : Port) → (silence counted : Silence) → Type 0
PortTurns forget [] calls before after silence counted = (calls ≡ []) × (before ≡ after) × (silence ≡ counted)
PortTurns forget (heard ∷ later) calls before after silence counted =
    (first : List Call) × (rest : List Call) × (mid : Port) × (noted : Silence) × (calls ≡ first ++ rest)
    × PortTurn forget heard first before mid silence noted × PortTurns forget later rest mid after noted counted

-- A port that had heard nothing made turns, so many at most, in each of which it heard what the list has. These are its calls, and in so many
-- of its last turns in a row nothing was heard.
pub record PortRun (on : Bus) (turns : ℕ) (forget : Option ℕ) (calls : List Call) (heard : List Hearing) (quiet : ℕ) : Type 0 where
  pub before : Port
  pub after : Port
  pub silence : Silence
  pub counted : Silence
  pub fresh : IsFreshPort on before
  pub nobody : NobodySilent silence
  pub within : length heard ≤ turns
  pub quiet_is : IsQuiet 0 heard quiet
  pub made : PortTurns forget heard calls before after silence counted

-- both ports made all their turns
abbrev pub AllMade : (turns : ℕ) → (ipmb smbus : List Hearing) → Type 0
AllMade turns ipmb smbus = (length ipmb ≡ turns) × (length smbus ≡ turns)

-- Both ports were served as the words say, with the calls that these histories have: until both made all their turns, until both heard nothing
-- for as many turns in a row as the words have, or until the one history was full.
pub record PortsRun (words : ServeWords) (histories : List (List Event)) (most events : ℕ) : Type 0 where
  pub ipmb_heard : List Hearing
  pub smbus_heard : List Hearing
  pub ipmb_quiet : ℕ
  pub smbus_quiet : ℕ
  pub ipmb : PortRun bus.Ipmb words.turns words.forget (flat_map (calls_of 0) histories) ipmb_heard ipmb_quiet
  pub smbus : PortRun bus.Smbus words.turns words.forget (flat_map (calls_of 1) histories) smbus_heard smbus_quiet
  pub over : AllMade words.turns ipmb_heard smbus_heard
      ⊎ ((IsQuietFor words.quiet ipmb_quiet × IsQuietFor words.quiet smbus_quiet)
      ⊎ ((words.periods ≡ false) × (events ≡ most)))
