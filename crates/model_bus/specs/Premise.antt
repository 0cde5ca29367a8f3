-- Schedules that show why each premise is there: each breaks one, and a request is carried out twice or answered wrongly.
use Rattle.std.specs.Prelude.{◌≡◌, ℕ, List, [], ◌∷◌, ◌++◌, length}
use Rattle.model_bus.specs.Numbering.{Rules}
use Rattle.model_bus.specs.BusState.{Event, Begins, SendsAgain, ReachesPort, ReachesManager, OtherAsks, IsIdle, opening, run}
use Rattle.model_bus.specs.Example.{rounds}

-- so many requests are begun, carried out and taken in the end
abbrev pub Counts : Rules → List Event → ℕ → ℕ → ℕ → Type 0
Counts rules events begun carried taken =
    let state = run rules events (opening []) in
    (length state.begun ≡ begun) × (length state.carried ≡ carried) × (length state.taken ≡ taken)

-- a copy of request 0 comes after 32 newer requests
abbrev pub too_old : List Event
too_old = rounds 33 0 ++ ReachesPort 0 (1 ∷ []) ∷ []

-- the manager's window is forgotten between two copies of the open request
abbrev pub forgotten_while_open : List Event
forgotten_while_open = Begins (7 ∷ []) ∷ ReachesPort 0 (1 ∷ []) ∷ IsIdle 44 ∷ SendsAgain ∷ ReachesPort 2 (2 ∷ []) ∷ []

-- it is forgotten while none is open, but an older copy comes afterwards
abbrev pub older_than_idle : List Event
older_than_idle = rounds 1 0 ++ IsIdle 44 ∷ ReachesPort 0 (2 ∷ []) ∷ []

-- somebody else asks the same under the manager's address before, and the manager gets the reply to that
abbrev pub in_the_managers_name : List Event
in_the_managers_name =
    OtherAsks (record { requester = 44; number = 0; bytes = 7 ∷ [] }) (9 ∷ []) ∷ Begins (7 ∷ []) ∷ ReachesPort 0 (1 ∷ []) ∷ ReachesManager 1 ∷ []

-- Another manager takes the place of one whose request 0 is open, and goes on from number 1. Nobody waits for request 0 any
-- more, so where a frame of it comes late, it is one more request in the manager's name; and the new one's comes again.
abbrev pub resumed_while_open : List Event
resumed_while_open =
    Begins (8 ∷ []) ∷ ReachesPort 0 (1 ∷ []) ∷ ReachesManager 1 ∷ OtherAsks (record { requester = 44; number = 0; bytes = 7 ∷ [] }) (2 ∷ []) ∷ ReachesPort 0 (3 ∷ []) ∷ []

-- the window isn't empty at the start: it holds such a request
abbrev pub InUseAtStart : Rules → Type 0
InUseAtStart rules =
    let asked : List Event = OtherAsks (record { requester = 44; number = 0; bytes = 7 ∷ [] }) (9 ∷ []) ∷ [] in
    let state = run rules (Begins (7 ∷ []) ∷ ReachesPort 0 (1 ∷ []) ∷ ReachesManager 1 ∷ []) (opening (run rules asked (opening [])).log) in
    (length state.carried ≡ 0) × (state.taken ≡ (9 ∷ []) ∷ [])
