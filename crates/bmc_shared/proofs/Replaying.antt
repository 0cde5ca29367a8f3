-- Histories that go on.
use Rattle.std.proofs.Common.{◌≡◌, List, [], ◌∷◌, ◌++◌, refl, sym, subst}
use Rattle.cfg_records.specs.declared.board_file.BoardFile.{BoardFile}
use Rattle.bmc_board.specs.State.{State}
use Rattle.bmc_shared.specs.declared.event.Event.{Event}
use Rattle.bmc_shared.specs.Replay.{IsReplay, IsAnsweredCall, after_call}
use Rattle.bmc_shared.specs.Follows.{HistoryGoesOn}

-- a history goes on by one event
pub goes_on_to : (setup : BoardFile) (first : State) (events : List Event) (mid last : State) (event : Event) → IsReplay setup first events mid → IsAnsweredCall setup mid event.call → after_call setup mid event.call ≡ last → IsReplay setup first (events ++ event ∷ []) last
goes_on_to setup first [] mid last event run is leaves =
    subst (λ (s : State). IsAnsweredCall setup s event.call × (after_call setup s event.call ≡ last)) (sym run) (is, leaves)
goes_on_to setup first (e ∷ events) mid last event run is leaves = (run.0, goes_on_to setup (after_call setup first e.call) events mid last event run.1 is leaves)

pub goes_on : HistoryGoesOn
goes_on setup first mid events event run is = goes_on_to setup first events mid (after_call setup mid event.call) event run is refl
