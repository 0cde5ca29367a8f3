-- What an event does to the manager's requests: nothing, or one step of the open one.
use Rattle.std.specs.Prelude.{◌≡◌, ℕ, ◌<◌, List, [], ◌∷◌, ◌++◌, length, Some, None, slice_get, MatchOption, MatchBool}
use Rattle.model_bus.specs.Request.{Kept}
use Rattle.model_bus.specs.Numbering.{Rules}
use Rattle.model_bus.specs.BusState.{BusState, Event, Begins, SendsAgain, ReachesPort, ReachesManager, OtherAsks, OtherReplies, IsIdle, Resumes, is_open, happens, run, carried_now, taken_now}
use Rattle.model_bus.specs.Schedule.{AllHonest}
use Rattle.model_bus.specs.Start.{NothingUnderWay, FreshWindow}

-- the reply that is kept for the n-th request
pub record IsKeptFor (carried : List Kept) (request : ℕ) (reply : List ℕ) : Type 0 where
  pub kept : Kept
  pub at : slice_get carried request ≡ Some kept
  pub replied : kept.reply ≡ reply

-- no request of the manager moves
pub record SameRequests (old new : BusState) : Type 0 where
  pub begun : new.begun ≡ old.begun
  pub carried : new.carried ≡ old.carried
  pub taken : new.taken ≡ old.taken

-- a request is begun, and none was open
pub record BeginsRequest (old new : BusState) (bytes : List ℕ) : Type 0 where
  pub begun : new.begun ≡ old.begun ++ bytes ∷ []
  pub carried : new.carried ≡ old.carried
  pub taken : new.taken ≡ old.taken
  pub none_open : length old.taken ≡ length old.begun

-- the open request is carried out, for the first time, and its reply is kept
pub record CarriesOpen (old new : BusState) (bytes reply : List ℕ) : Type 0 where
  pub begun : new.begun ≡ old.begun
  pub taken : new.taken ≡ old.taken
  pub opened : slice_get old.begun (length old.taken) ≡ Some bytes
  pub first : slice_get old.carried (length old.taken) ≡ None
  pub carried : (entry : Kept) × (new.carried ≡ old.carried ++ entry ∷ []) × (entry.request.bytes ≡ bytes) × (entry.reply ≡ reply)
  pub kept : IsKeptFor new.carried (length old.taken) reply

-- the open request's reply is taken, which is the one that is kept for it
pub record TakesReply (old new : BusState) (reply : List ℕ) : Type 0 where
  pub begun : new.begun ≡ old.begun
  pub carried : new.carried ≡ old.carried
  pub taken : new.taken ≡ old.taken ++ reply ∷ []
  pub opened : length old.taken < length old.begun
  pub kept : IsKeptFor old.carried (length old.taken) reply

-- what each event does
abbrev pub HasEffect : Rules → BusState → Event → Type 0
HasEffect rules state (Begins bytes) = MatchBool (is_open state) (SameRequests state (happens rules state (Begins bytes))) (BeginsRequest state (happens rules state (Begins bytes)) bytes)
HasEffect rules state SendsAgain = SameRequests state (happens rules state SendsAgain)
HasEffect rules state (ReachesPort which answer) =
    let new = happens rules state (ReachesPort which answer) in
    MatchOption (carried_now rules (slice_get state.frames which) state) (SameRequests state new) (λ bytes. CarriesOpen state new bytes answer)
HasEffect rules state (ReachesManager which) =
    let new = happens rules state (ReachesManager which) in
    MatchOption (taken_now rules (slice_get state.frames which) state) (SameRequests state new) (λ reply. TakesReply state new reply)
HasEffect rules state (OtherAsks request answer) = SameRequests state (happens rules state (OtherAsks request answer))
HasEffect rules state (OtherReplies source number reply) = SameRequests state (happens rules state (OtherReplies source number reply))
HasEffect rules state (IsIdle requester) = SameRequests state (happens rules state (IsIdle requester))
HasEffect rules state Resumes = SameRequests state (happens rules state Resumes)

-- of every event of every honest schedule from a start
abbrev pub EventsHaveEffects : Rules → Type 0
EventsHaveEffects rules = (start : BusState) (events : List Event) (event : Event) → NothingUnderWay start → FreshWindow rules start.log
    → AllHonest rules (events ++ event ∷ []) start → HasEffect rules (run rules events start) event
