-- Live frames and honest schedules.
use Rattle.std.specs.Prelude.{◌≡◌, ◌≢◌, ℕ, ◌+◌, ◌≤◌, ◌↔◌, Bool, true, false, nat_le, ◌==◌, ◌&&◌, ◌||◌, List, [], ◌∷◌, length, slice_get, IfSome}
use Rattle.model_bus.specs.Request.{idles_of}
use Rattle.model_bus.specs.Numbering.{Rules}
use Rattle.model_bus.specs.BusState.{Frame, BusState, Event, Begins, SendsAgain, ReachesPort, ReachesManager, OtherAsks, OtherReplies, IsIdle, Resumes, is_open, happens}

-- fewer newer requests than the span were begun, and the manager's window wasn't forgotten since the frame was sent
abbrev pub IsLive : Rules → BusState → Frame → Type 0
IsLive rules state frame = (length state.begun ≤ frame.request + rules.span) × (frame.idles ≡ idles_of rules.manager state.log)

-- the same as a test
abbrev pub is_live : Rules → BusState → Frame → Bool
is_live rules state frame = nat_le (length state.begun) (frame.request + rules.span) && (frame.idles == idles_of rules.manager state.log)

-- the test tells
abbrev pub TestTells : Type 0
TestTells = (rules : Rules) (state : BusState) (frame : Frame) → (is_live rules state frame ≡ true) ↔ IsLive rules state frame

-- Only live frames are delivered, nobody else uses the manager's address, or replies from the controller's, and the manager's
-- window isn't forgotten, nor another manager put in its place, while a request of it is open. A frame that is lost,
-- repeated, delayed or overtaken is one that no, or more, or a later event delivers.
abbrev pub IsHonest : Rules → BusState → Event → Type 0
IsHonest rules state (Begins bytes) = Unit {0}
IsHonest rules state SendsAgain = Unit {0}
IsHonest rules state (ReachesPort which answer) = IfSome (slice_get state.frames which) (IsLive rules state)
IsHonest rules state (ReachesManager which) = IfSome (slice_get state.frames which) (IsLive rules state)
IsHonest rules state (OtherAsks request answer) = request.requester ≢ rules.manager
IsHonest rules state (OtherReplies source number reply) = source ≢ rules.controller
IsHonest rules state (IsIdle requester) = requester ≡ rules.manager → is_open state ≡ false
IsHonest rules state Resumes = is_open state ≡ false

-- every event of a schedule is honest, where it happens
abbrev pub AllHonest : Rules → List Event → BusState → Type 0
AllHonest rules [] state = Unit {0}
AllHonest rules (event ∷ events) state = IsHonest rules state event × AllHonest rules events (happens rules state event)

-- a lab that forgets the manager's window on one bus, or puts another in its place, only while no request is open on
-- either is honest
pub record NoneOpenIsHonest : Type 0 where
  pub idle : (rules : Rules) (here there : BusState) (requester : ℕ) → (is_open here || is_open there) ≡ false → IsHonest rules here (IsIdle requester)
  pub resumes : (rules : Rules) (here there : BusState) → (is_open here || is_open there) ≡ false → IsHonest rules here Resumes
