-- A history replays in one way at most, and a board has one file in one way at most.
use Rattle.std.specs.Prelude.{◌≡◌, List, [], ◌∷◌}
use Rattle.std.specs.Coded.{Coded-set, codes}
use Rattle.std.proofs.Props.{props}
use Rattle.record_base.specs.UsersLaws.{AreUsers-prop}
use Rattle.record_base.specs.AttributesLaws.{AreInPlace-prop}
use Rattle.cfg_records.specs.declared.board_file.BoardFile.{BoardFile}
use Rattle.bmc_board.specs.State.{State}
use Rattle.bmc_shared.specs.declared.event.Call.{Call}
use Rattle.bmc_shared.specs.declared.event.Call.TheVariants.{Exchanged, Benched}
use Rattle.bmc_shared.specs.declared.event.Event.{Event}
use Rattle.bmc_shared.specs.Replay.{IsAnsweredCall, after_call, IsReplay}

IsAnswered-prop : (setup : BoardFile) (before : State) (call : Call) → IsProp (IsAnsweredCall setup before call)
IsAnswered-prop setup before (Exchanged asked answered) = hlevel props
IsAnswered-prop setup before (Benched bench answered) = hlevel props

pub Replays-prop : (setup : BoardFile) (first : State) (events : List Event) (last : State) → IsProp (IsReplay setup first events last)
Replays-prop setup first [] last = hlevel props
Replays-prop setup first (event ∷ later) last = hlevel (IsAnswered-prop setup first event.call, Replays-prop setup (after_call setup first event.call) later last)

pub same_file-prop : (file other : BoardFile) → IsProp (file ≡ other)
same_file-prop file other = Coded-set (Prim.hlevel (AreUsers-prop, AreInPlace-prop, codes)) file other
