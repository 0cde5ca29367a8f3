-- Schedules that compute, on each bus: none of the theorems is about nothing.
use Rattle.std.specs.Prelude.{◌≡◌, ℕ, zero, suc, ◌+◌, List, [], ◌∷◌, ◌++◌, length, Some, None, slice_get}
use Rattle.model_bus.specs.Numbering.{Rules}
use Rattle.model_bus.specs.BusState.{Content, Reply, Event, Begins, SendsAgain, ReachesPort, ReachesManager, OtherAsks, OtherReplies, IsIdle, Resumes, opening, run}
use Rattle.model_bus.specs.Schedule.{AllHonest}

-- so many other requesters, from 0 on, ask something
abbrev pub others : ℕ → List Event
others zero = []
others (suc n) = OtherAsks (record { requester = n; number = 0; bytes = [] }) [] ∷ others n

-- so many requests, each begun, carried and answered at once; the first one's frame has this place
abbrev pub rounds : ℕ → ℕ → List Event
rounds zero frame = []
rounds (suc n) frame = Begins (n ∷ []) ∷ ReachesPort frame (n ∷ []) ∷ ReachesManager (frame + 1) ∷ rounds n (frame + 2)

-- Eight others hold all windows, so the manager's first request finds the port busy (frame 1). One of them becomes idle.
-- Frame 2 is lost, frame 3 is carried and its reply, frame 4, is delayed; frame 5 repeats it, and the kept reply, frame 6,
-- is taken.
abbrev pub hard_start : List Event
hard_start =
    others 8 ++ Begins (7 ∷ []) ∷ ReachesPort 0 (70 ∷ []) ∷ ReachesManager 1
    ∷ IsIdle 3 ∷ SendsAgain ∷ SendsAgain ∷ ReachesPort 3 (71 ∷ []) ∷ SendsAgain ∷ ReachesPort 5 (72 ∷ [])
    ∷ ReachesManager 6 ∷ []

-- The delayed reply, frame 4, comes while the second request is open, before that is carried and after, and a reply of
-- somebody else under the second one's number. Neither is taken.
abbrev pub late_reply : ℕ → List Event
late_reply number =
    Begins (31 ∷ []) ∷ ReachesManager 4 ∷ OtherReplies 50 number (99 ∷ []) ∷ ReachesPort 7 (31 ∷ []) ∷ ReachesManager 4 ∷ ReachesManager 8 ∷ []

-- on IPMB: another manager takes over, after 31 newer requests the first one's frame comes again, and after an idle of the
-- manager there is one more request
abbrev pub ipmb_example : List Event
ipmb_example = hard_start ++ late_reply 61 ++ Resumes ∷ rounds 30 9 ++ ReachesPort 3 (73 ∷ []) ∷ IsIdle 44 ∷ [] ++ rounds 1 70

-- on SMBus: the same with 7 newer requests
abbrev pub smbus_example : List Event
smbus_example = hard_start ++ late_reply 29 ++ Resumes ∷ rounds 6 9 ++ ReachesPort 3 (73 ∷ []) ∷ IsIdle 44 ∷ [] ++ rounds 1 22

-- the schedule is honest, and each of so many requests was carried out and its reply taken
pub record EndsAnswered (b : Rules) (events : List Event) (requests : ℕ) : Type 0 where
  pub honest : AllHonest b events (opening [])
  pub begun : length (run b events (opening [])).begun ≡ requests
  pub carried : length (run b events (opening [])).carried ≡ requests
  pub taken : length (run b events (opening [])).taken ≡ requests

-- what a frame held
abbrev pub Held : Rules → List Event → ℕ → ℕ → Content → Type 0
Held b events which request content = slice_get (run b events (opening [])).frames which ≡ Some (record { request = request; idles = 0; content = content })

-- the busy answer, the kept replies to the repeats, the second after the newer requests, and the replies taken first
pub record ShowsRepeats (b : Rules) (events : List Event) (late : ℕ) : Type 0 where
  pub busy : Held b events 1 0 (Reply (b.number_of 0) None)
  pub repeated : Held b events 6 0 (Reply (b.number_of 0) (Some (71 ∷ [])))
  pub late_repeated : Held b events late 0 (Reply (b.number_of 0) (Some (71 ∷ [])))
  pub first_taken : slice_get (run b events (opening [])).taken 0 ≡ Some (71 ∷ [])
  pub second_taken : slice_get (run b events (opening [])).taken 1 ≡ Some (31 ∷ [])
