-- The port of either bus.
use Rattle.std.specs.Prelude.{◌≡◌, ℕ, List, Result}
use Rattle.two_wire.specs.declared.Bus.{Bus}
use Rattle.two_wire.specs.declared.Bus.TheVariants as bus
use Rattle.cfg_records.specs.declared.board_file.BoardFile.{BoardFile}
use Rattle.record_base.specs.declared.message.Asked.{Asked}
use Rattle.record_base.specs.declared.message.Answered.{Answered}
use Rattle.bmc_board.specs.declared.board.Board.{Board}
use Rattle.bmc_board.specs.State.{State, state_of}
use Rattle.bmc_board.specs.Answer.{answer_of}
use Rattle.bmc_board.specs.declared.carrier.Carrier.{Ghosts}
use Rattle.bmc_core.specs.PortSteps.{PortState, asked_in}
use Rattle.bmc_core.specs.declared.out.Out.{Out}
use Rattle.bmc_core.specs.declared.step.ServeOutcome.{ServeOutcome}
use Rattle.bmc_core.specs.declared.step.Step.{Step}
use Rattle.bmc_core.specs.declared.step.Step.TheVariants.{Ask, Done}
use Rattle.bmc_core.specs.declared.port.Port.{Port}
use Rattle.bmc_core.specs.declared.port.Port.TheVariants.{Ipmb, Smbus}
use Rattle.bmc_core.specs.declared.port.Pending.{Pending}
use Rattle.bmc_core.specs.declared.port.Pending.TheVariants as pending
use Rattle.bmc_core.specs.SmbusHeard as smbus_heard
use Rattle.bmc_core.specs.IpmbShown as ipmb
use Rattle.bmc_core.specs.SmbusShown as smbus
use Rattle.bmc_core.specs.Served.{ServesBy}

-- the bus that a port is on
abbrev pub bus_of : Port → Bus
bus_of (Ipmb port) = bus.Ipmb
bus_of (Smbus port) = bus.Smbus

-- it represents this model port
abbrev pub Represents : Port → PortState → Type 0
Represents (Ipmb port) at = ipmb.Represents port at
Represents (Smbus port) at = smbus.Represents port at

-- A port of a board with this setup hears the bytes. For each model port that it represents, the port and the board become what the model port
-- and its board become, and the port sends what the model port sends.
abbrev pub PortStep : BoardFile → Port → State → List ℕ → Out → Port → State → Type 0
PortStep setup (Ipmb port) before bytes out (Ipmb next) after = ipmb.PortStep setup port before bytes out next after
PortStep setup (Smbus port) before bytes out (Smbus next) after = smbus.PortStep setup port before bytes out next after
PortStep setup _ before bytes out _ after = ⊥

-- so it is with this board before and that board after
abbrev pub PortStepOf : {S : Type 0} {g h : _} → Board S g h → Port → List ℕ → Out → Port → Board S g h → Type 0
PortStepOf board port bytes out next left = PortStep board.setup port (state_of board) bytes out next (state_of left)

-- ---- in two steps, with the board between

-- the bus of the port that heard a request
abbrev pub bus_asked : Pending → Bus
bus_asked (pending.Ipmb request) = bus.Ipmb
bus_asked (pending.Smbus request) = bus.Smbus

-- what a request asks of the board
abbrev pub asked_of : Pending → Asked
asked_of (pending.Ipmb request) = asked_in request
asked_of (pending.Smbus request) = smbus_heard.asked_of (smbus.request_in request)

-- the request that the board is to be asked came over this bus
abbrev pub IsOn : Bus → Step Pending → Type 0
IsOn on (Ask pending) = bus_asked pending ≡ on
IsOn on Done = Unit {0}

-- A port hears the bytes up to where the caller asks the board. A port on IPMB stays as it was, and a port on the System Management Bus has taken
-- the packet.
abbrev pub IsStep : Port → List ℕ → Port → Out → Step Pending → Type 0
IsStep (Ipmb port) bytes (Ipmb next) out (Ask (pending.Ipmb request)) = ipmb.IsStep port bytes next out (Ask request)
IsStep (Ipmb port) bytes (Ipmb next) out Done = ipmb.IsStep port bytes next out Done
IsStep (Smbus port) bytes (Smbus next) out (Ask (pending.Smbus request)) = smbus.AskingStep port bytes next out (Ask request)
IsStep (Smbus port) bytes (Smbus next) out Done = smbus.AskingStep port bytes next out Done
IsStep _ bytes _ out _ = ⊥

-- a port answers a request that it heard, with this answer
abbrev pub AnswerStep : Port → Pending → Answered → Port → Out → Type 0
AnswerStep (Ipmb port) (pending.Ipmb request) answered (Ipmb next) out = ipmb.AnswerStep port request answered next out
AnswerStep (Smbus port) (pending.Smbus request) answered (Smbus next) out = smbus.AnswerStep port request answered next out
AnswerStep _ _ answered _ out = ⊥

-- A port of a board hears the bytes, and the caller asks the board and gives the port the board's answer at that moment: so the port has heard
-- the bytes as a whole. Where the bytes ask nothing, it has heard them at once, and the board stays as it was.
pub record IsHeardThenAnswered (setup : BoardFile) (port : Port) (before : State) (bytes : List ℕ) : Type 0 where
  pub answered : (between next : Port) (first out : Out) (pending : Pending) → IsStep port bytes between first (Ask pending)
      → let given = answer_of setup before (asked_of pending) in AnswerStep between pending given.0 next out → PortStep setup port before bytes out next given.1
  pub settled : (next : Port) (out : Out) → IsStep port bytes next out Done → PortStep setup port before bytes out next before

-- and so it is for each port, board and bytes
abbrev pub AreHeardThenAnswered : Type 0
AreHeardThenAnswered = (setup : BoardFile) (port : Port) (before : State) (bytes : List ℕ) → IsHeardThenAnswered setup port before bytes

-- ---- in one step, with a carrier beside it

-- A port took the bytes, with a carrier beside it. The bytes asked nothing; or the carrier carried out their request, and the port got the
-- answer; or the carrier refused the request, and the port got no answer.
abbrev pub ServesFrameBy : {K Error : Type 0} → (Asked → Answered → K → Type 0) → (Error → K → Type 0) → Port → List ℕ → K → Result ServeOutcome Error → Port → Out → K → Type 0
ServesFrameBy carries refuses port bytes before result next out after =
    ServesBy (λ between heard step. IsStep port bytes between heard step) AnswerStep asked_of carries refuses before result next out after

-- and this was the carrier
abbrev pub ServesFrame : {C K Error : Type 0} → Ghosts C K Error → C → Port → List ℕ → K → Result ServeOutcome Error → Port → Out → K → Type 0
ServesFrame of carrier port bytes before result next out after =
    ServesFrameBy (of.carries carrier before) (of.refuses carrier before) port bytes before result next out after
