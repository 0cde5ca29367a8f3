-- What a port does with frames that it hears in turn.
use Rattle.std.specs.Prelude.{◌≡◌, ℕ, List, [], ◌∷◌}
use Rattle.cfg_records.specs.declared.board_file.BoardFile.{BoardFile}
use Rattle.two_wire.specs.declared.Bus.{Bus}
use Rattle.bmc_board.specs.State.{State, opened}
use Rattle.bmc_core.specs.declared.out.Out.{Out}
use Rattle.bmc_core.specs.declared.port.Port.{Port}
use Rattle.bmc_core.specs.Port.{PortStep}
use Rattle.bmc_core.specs.Outs.{waiting}
use Rattle.bmc_lab.specs.Run.{IsFreshPort}

-- a port that did `last` before hears the frames in turn, and does this with the last of them
abbrev pub HearsInTurn : BoardFile → (last : Out) → Port → State → (frames : List (List ℕ)) → Out → Port → State → Type 0
HearsInTurn setup last port before [] out next after = (out ≡ last) × (next ≡ port) × (after ≡ before)
HearsInTurn setup last port before (frame ∷ frames) out next after =
    (first : Out) × (mid : Port) × (left : State) × PortStep setup port before frame first mid left × HearsInTurn setup first mid left frames out next after

-- a fresh controller's port on this bus, over a board of this file, hears the frames in turn, and does this with the last of them
pub record HeardByFresh (file : BoardFile) (bus : Bus) (frames : List (List ℕ)) (out : Out) : Type 0 where
  pub port : Port
  pub fresh : IsFreshPort bus port
  pub next : Port
  pub after : State
  pub heard : HearsInTurn file waiting port (opened file) frames out next after
