-- Whether a schedule is honest, as a test that computes.
use Rattle.std.proofs.Common.{◌≡◌, ◌+◌, Bool, true, not, ◌&&◌, ◌||◌, List, [], ◌∷◌, length, Option, Some, None, inl, inr}
use Rattle.std.specs.Prelude.{slice_get, IfSome, ◌==◌}
use Rattle.std.proofs.lemmas.Bool.{and_parts, and_from, le-leb, leb-true, eqb-true, eqb-false, not-true, or_cases, both_ways, eq-eqb}
use Rattle.model_bus.specs.Request.{idles_of}
use Rattle.model_bus.specs.Numbering.{Rules}
use Rattle.model_bus.specs.BusState.{BusState, Frame, Event, Begins, SendsAgain, ReachesPort, ReachesManager, OtherAsks, OtherReplies, IsIdle, Resumes, is_open, happens}
use Rattle.model_bus.specs.Schedule.{IsLive, is_live, TestTells, IsHonest, AllHonest}

-- a frame, if it was sent, is live
abbrev pub live_if : Rules → BusState → Option Frame → Bool
live_if b s None = true
live_if b s (Some f) = is_live b s f

-- the event is honest
abbrev pub is_honest : Rules → BusState → Event → Bool
is_honest b s (Begins bytes) = true
is_honest b s SendsAgain = true
is_honest b s (ReachesPort which answer) = live_if b s (slice_get s.frames which)
is_honest b s (ReachesManager which) = live_if b s (slice_get s.frames which)
is_honest b s (OtherAsks request answer) = not (request.requester == b.manager)
is_honest b s (OtherReplies source number reply) = not (source == b.controller)
is_honest b s (IsIdle requester) = not (requester == b.manager) || not (is_open s)
is_honest b s Resumes = not (is_open s)

-- every event is
abbrev pub all_honest : Rules → List Event → BusState → Bool
all_honest b [] s = true
all_honest b (e ∷ es) s = is_honest b s e && all_honest b es (happens b s e)

pub is_live-tells : (b : Rules) (s : BusState) (f : Frame) → is_live b s f ≡ true → IsLive b s f
is_live-tells b s f t = let parts = and_parts _ _ t in (leb-true _ _ parts.0, eqb-true _ _ parts.1)

pub test_tells : TestTells
test_tells b s f = (is_live-tells b s f, λ live. and_from _ _ (le-leb (length s.begun) (f.request + b.span) live.0) (eq-eqb f.idles (idles_of b.manager s.log) live.1))

pub live_if-tells : (b : Rules) (s : BusState) (o : Option Frame) → live_if b s o ≡ true → IfSome o (IsLive b s)
live_if-tells b s None t = tt
live_if-tells b s (Some f) t = is_live-tells b s f t

pub is_honest-tells : (b : Rules) (s : BusState) (e : Event) → is_honest b s e ≡ true → IsHonest b s e
is_honest-tells b s (Begins bytes) t = tt
is_honest-tells b s SendsAgain t = tt
is_honest-tells b s (ReachesPort which answer) t = live_if-tells b s (slice_get s.frames which) t
is_honest-tells b s (ReachesManager which) t = live_if-tells b s (slice_get s.frames which) t
is_honest-tells b s (OtherAsks request answer) t = eqb-false _ _ (not-true _ t)
is_honest-tells b s (OtherReplies source number reply) t = eqb-false _ _ (not-true _ t)
is_honest-tells b s (IsIdle requester) t =
    λ mine. elim (or_cases _ _ t) [
      | inl other ↦ absurd (both_ways _ (not-true _ other) (eq-eqb requester b.manager mine))
      | inr closed ↦ not-true _ closed
    ]
is_honest-tells b s Resumes t = not-true _ t

pub all_honest-tells : (b : Rules) (events : List Event) (s : BusState) → all_honest b events s ≡ true → AllHonest b events s
all_honest-tells b [] s t = tt
all_honest-tells b (e ∷ es) s t = let parts = and_parts _ _ t in (is_honest-tells b s e parts.0, all_honest-tells b es (happens b s e) parts.1)
