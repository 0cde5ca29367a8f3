-- Histories by the command relation, and how they go on.
use Rattle.std.specs.Prelude.{◌≡◌, ◌↔◌, ◌++◌, List, [], ◌∷◌, Result}
use Rattle.cfg_records.specs.declared.board_file.BoardFile.{BoardFile}
use Rattle.bmc_board.specs.declared.bench.NoSensor.{NoSensor}
use Rattle.bmc_board.specs.State.{State}
use Rattle.bmc_board.specs.Row.{Row}
use Rattle.bmc_board.specs.Sensing.{bench_of}
use Rattle.bmc_shared.specs.declared.event.Call.{Call}
use Rattle.bmc_shared.specs.declared.event.Call.TheVariants.{Exchanged, Benched}
use Rattle.bmc_shared.specs.declared.event.Event.{Event}
use Rattle.bmc_shared.specs.Replay.{IsAnsweredCall, after_call, IsReplay}

-- the board's answer to the bench, and the state that it leaves
abbrev pub BenchStep : BoardFile → State → Result (Unit {0}) NoSensor → State → Result (Unit {0}) NoSensor × State → Type 0
BenchStep setup before answered after happened = (let here : Result (Unit {0}) NoSensor × State = (answered, after) in here) ≡ happened

-- a call leads from one state to the other, where it is answered so: a request as the command relation says
abbrev pub CallStep : BoardFile → State → Call → State → Type 0
CallStep setup before (Exchanged asked answered) after = Row setup before asked answered after
CallStep setup before (Benched bench answered) after = BenchStep setup before answered after (bench_of setup before bench)

-- the events lead in order from the first state to the last
abbrev pub FollowsEvents : BoardFile → State → List Event → State → Type 0
FollowsEvents setup first [] last = first ≡ last
FollowsEvents setup first (event ∷ later) last = (mid : State) × CallStep setup first event.call mid × FollowsEvents setup mid later last

-- a history replays exactly where its events lead from the first state to the last by the relation
abbrev pub ReplaysByRelation : Type 0
ReplaysByRelation = (setup : BoardFile) (first : State) (events : List Event) (last : State) → IsReplay setup first events last ↔ FollowsEvents setup first events last

-- a history goes on by each call that the board answers at its end
abbrev pub HistoryGoesOn : Type 0
HistoryGoesOn = (setup : BoardFile) (first mid : State) (events : List Event) (event : Event)
    → IsReplay setup first events mid
    → IsAnsweredCall setup mid event.call
    → IsReplay setup first (events ++ event ∷ []) (after_call setup mid event.call)
