-- A history, taken in order from the state that it began in.
use Rattle.std.specs.Prelude.{◌≡◌, ◌==◌, ◌≤◌, ℕ, List, [], ◌∷◌, filter, map}
use Rattle.cfg_records.specs.declared.board_file.BoardFile.{BoardFile}
use Rattle.bmc_board.specs.State.{State}
use Rattle.bmc_board.specs.Answer.{answer_of}
use Rattle.bmc_board.specs.Sensing.{bench_of}
use Rattle.bmc_shared.specs.declared.event.Call.{Call}
use Rattle.bmc_shared.specs.declared.event.Call.TheVariants.{Exchanged, Benched}
use Rattle.bmc_shared.specs.declared.event.Event.{Event}

-- the call was answered as the board answers it in this state
abbrev pub IsAnsweredCall : BoardFile → State → Call → Type 0
IsAnsweredCall setup before (Exchanged asked answered) = (answer_of setup before asked).0 ≡ answered
IsAnsweredCall setup before (Benched bench answered) = (bench_of setup before bench).0 ≡ answered

-- the state that a call leaves
abbrev pub after_call : BoardFile → State → Call → State
after_call setup before (Exchanged asked answered) = (answer_of setup before asked).1
after_call setup before (Benched bench answered) = (bench_of setup before bench).1

-- the events lead in order from the first state to the last, each answered as the board answers it there
abbrev pub IsReplay : BoardFile → State → List Event → State → Type 0
IsReplay setup first [] last = first ≡ last
IsReplay setup first (event ∷ later) last = IsAnsweredCall setup first event.call × IsReplay setup (after_call setup first event.call) later last

-- what a seat called, in order
abbrev pub calls_of : ℕ → List Event → List Call
calls_of seat events = map (λ event. event.call) (filter (λ event. event.seat == seat) events)

-- a history may have room for so many events
pub record IsRoom (room : ℕ) : Type 0 where
  pub least : 1 ≤ room
  pub most : room ≤ 4096
