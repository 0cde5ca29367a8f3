-- What a worker's port hears and gives, and what its seat calls.
use Rattle.std.specs.Prelude.{◌≡◌, ◌≤◌, ◌<◌, ◌++◌, ℕ, zero, suc, List, [], ◌∷◌, length, Option, Some, None, Result, Ok, Err}
use Rattle.record_base.specs.declared.message.Answered.{Answered}
use Rattle.bmc_core.specs.declared.out.Out.{Out}
use Rattle.bmc_core.specs.declared.step.Step.{Step}
use Rattle.bmc_core.specs.declared.step.Step.TheVariants.{Ask, Done}
use Rattle.bmc_core.specs.declared.port.Port.{Port}
use Rattle.bmc_core.specs.declared.port.Pending.{Pending}
use Rattle.bmc_core.specs.Port.{asked_of, IsStep, AnswerStep}
use Rattle.wire_links.specs.declared.link.Counts.{Counts}
use Rattle.wire_links.specs.declared.link.Link.{Ghosts}
use Rattle.wire_links.specs.Counted.{counted_on}
use Rattle.wire_links.specs.Trace.{GivesFrame, TakesEach}
use Rattle.bmc_shared.specs.declared.event.Call.{Call}
use Rattle.bmc_shared.specs.declared.event.Call.TheVariants.{Exchanged}
use Rattle.bmc_shared.specs.declared.held.PeriodFull.{PeriodFull}
use Rattle.bmc_shared.specs.declared.worker.End.{End}
use Rattle.bmc_shared.specs.declared.worker.End.TheVariants.{Turns, Full}

-- one call of `next` was counted, and what it heard
pub record CallsNext (frames : List (List ℕ)) (before after : Counts) : Type 0 where
  pub calls : after.calls ≡ counted_on before.calls 1
  pub heard : after.heard ≡ counted_on before.heard (length frames)

-- the frame that was heard, if one was, as a list
abbrev pub frames_in : Option (List ℕ) → List (List ℕ)
frames_in None = []
frames_in (Some frame) = frame ∷ []

-- ---- the port

-- the frames that a port gave
abbrev pub frames_of : Out → List (List ℕ)
frames_of out = out.frames.list.items

-- After the first step of a port, nothing is left to do, or the board was asked what the request asks, and the port got the reply. The port gave
-- these frames by then.
abbrev pub SettlesStep : Step Pending → Port → (first : Out) → List Call → (sent : List (List ℕ)) → Port → Type 0
SettlesStep Done between first calls sent after = (calls ≡ []) × (sent ≡ frames_of first) × (between ≡ after)
SettlesStep (Ask pending) between first calls sent after =
    (answered : Answered) × (out : Out) × (calls ≡ Exchanged (asked_of pending) answered ∷ []) × (sent ≡ frames_of out)
    × AnswerStep between pending answered after out

-- a port heard the frame, the board was called so for it, and the port gave these frames
pub record HearsFrame (before : Port) (frame : List ℕ) (calls : List Call) (sent : List (List ℕ)) (after : Port) : Type 0 where
  pub between : Port
  pub first : Out
  pub step : Step Pending
  pub heard : IsStep before frame between first step
  pub settles : SettlesStep step between first calls sent after

-- the board was asked so, and the seat's list gained the request with the reply that the port got
abbrev pub CarriesRequest : Pending → Port → (first : Out) → List Call → List Call → (sent : List (List ℕ)) → Port → Type 0
CarriesRequest pending before first held kept sent after = (calls : List Call) × (kept ≡ held ++ calls) × SettlesStep (Ask pending) before first calls sent after

-- it heard frames, one after another
abbrev pub ServesFrames : List (List ℕ) → Port → List Call → Port → Type 0
ServesFrames [] before calls after = (calls ≡ []) × (before ≡ after)
ServesFrames (frame ∷ later) before calls after =
    (mid : Port) × (first : List Call) × (rest : List Call) × (sent : List (List ℕ)) × (calls ≡ first ++ rest)
    × HearsFrame before frame first sent mid × ServesFrames later mid rest after

-- it heard a frame whose request was dropped
pub record DropsFrame (before : Port) (frame : List ℕ) (after : Port) : Type 0 where
  pub out : Out
  pub pending : Pending
  pub asks : IsStep before frame after out (Ask pending)

-- it heard frames, and dropped the request of the last
pub record ServesAllButLast (frames : List (List ℕ)) (before : Port) (calls : List Call) (after : Port) : Type 0 where
  pub served : List (List ℕ)
  pub last : List ℕ
  pub mid : Port
  pub all : frames ≡ served ++ last ∷ []
  pub serves : ServesFrames served before calls mid
  pub drops : DropsFrame mid last after

-- a worker that found no room dropped the request for which it looked
abbrev pub ServesTo : End → List (List ℕ) → Port → List Call → Port → Type 0
ServesTo Turns = ServesFrames
ServesTo Full = ServesAllButLast

-- ---- the worker

-- how a worker ends, or would, by what its last call of the board came to
abbrev pub end_of : Result (Unit {0}) PeriodFull → End
end_of (Ok done) = Turns
end_of (Err full) = Full

-- a worker that found room to its end made all its turns, and another one at least the turn in which it found none
abbrev pub MadeAll : End → ℕ → Counts → Counts → Type 0
MadeAll Turns turns before after = after.calls ≡ counted_on before.calls turns
MadeAll Full turns before after = (made : ℕ) × (1 ≤ made) × (made ≤ turns) × (after.calls ≡ counted_on before.calls made)

-- A port took what was heard, if a frame was, and its worker ends so by it, or would. The board was called so for it, and the port gave these
-- frames.
abbrev pub TakesHeard : End → (heard : Option (List ℕ)) → (before : Port) → List Call → (sent : List (List ℕ)) → (after : Port) → Type 0
TakesHeard Turns None before calls sent after = (calls ≡ []) × (sent ≡ []) × (before ≡ after)
TakesHeard Turns (Some frame) before calls sent after = HearsFrame before frame calls sent after
TakesHeard Full None before calls sent after = ⊥
TakesHeard Full (Some frame) before calls sent after = (calls ≡ []) × (sent ≡ []) × DropsFrame before frame after

-- likewise, and the seat's list gained the replies that the port got
pub record WorkerStep (end : End) (heard : Option (List ℕ)) (before after : Port) (held kept : List Call) (sent : List (List ℕ)) : Type 0 where
  pub gained : List Call
  pub list : kept ≡ held ++ gained
  pub takes : TakesHeard end heard before gained sent after

-- and a link took these frames, each once and in their order
pub record StepOver {L : Type 0} (of : Ghosts L) (end : End) (heard : Option (List ℕ)) (before after : Port) (held kept : List Call) (link left : L) : Type 0 where
  pub sent : List (List ℕ)
  pub step : WorkerStep end heard before after held kept sent
  pub took : TakesEach of link sent left

-- A worker made one turn over a link. Its port took the very frame that the link's `next` heard, if one was heard, and the link took the frames
-- that the port gave for it. The call of `next` was counted, and what it heard.
pub record MakesTurn {L : Type 0} (of : Ghosts L) (end : End) (heard : Option (List ℕ)) (before after : Port) (held kept : List Call) (link left : L) : Type 0 where
  pub mid : L
  pub gives : GivesFrame of link heard mid
  pub takes : StepOver of end heard before after held kept mid left
  pub next : CallsNext (frames_in heard) (of.counts_of link) (of.counts_of left)

-- it heard something in it, or nothing
abbrev pub OneTurnOver : {L : Type 0} → (of : Ghosts L) → End → (before after : Port) → (held kept : List Call) → (link left : L) → Type 0
OneTurnOver of end before after held kept link left = (heard : Option (List ℕ)) × MakesTurn of end heard before after held kept link left

-- a worker made turns over a link, one after another, in each of which it found room
abbrev pub TurnsOver : {L : Type 0} → (of : Ghosts L) → (turns : ℕ) → (before after : Port) → (held kept : List Call) → (link left : L) → Type 0
TurnsOver of zero before after held kept link left = (before ≡ after) × (held ≡ kept) × (link ≡ left)
TurnsOver of (suc turns) before after held kept link left =
    (mid : Port) × (list : List Call) × (at : _) × TurnsOver of turns before mid held list link at × OneTurnOver of Turns mid after list kept at left

-- and then one in which it found none
pub record EndsWithoutRoom {L : Type 0} (of : Ghosts L) (turns : ℕ) (before after : Port) (held kept : List Call) (link left : L) : Type 0 where
  pub made : ℕ
  pub within : made < turns
  pub mid : Port
  pub list : List Call
  pub at : L
  pub found : TurnsOver of made before mid held list link at
  pub last : OneTurnOver of Full mid after list kept at left

-- A worker made turns over a link and ended so: what its port heard, in each of them, is what the link gave, and what the port gave is what the link
-- took.
abbrev pub HeardAndSent : {L : Type 0} → (of : Ghosts L) → End → (turns : ℕ) → (before after : Port) → (held kept : List Call) → (link left : L) → Type 0
HeardAndSent of Turns = TurnsOver of
HeardAndSent of Full = EndsWithoutRoom of

-- A worker made turns and ended so. Its port heard as many frames as its link counted, and got the replies that its seat's list
-- gained, in their order.
pub record WorkerRun (end : End) (turns : ℕ) (before after : Port) (held kept : List Call) (counted counts : Counts) : Type 0 where
  pub frames : List (List ℕ)
  pub gained : List Call
  pub calls : MadeAll end turns counted counts
  pub heard : counts.heard ≡ counted_on counted.heard (length frames)
  pub list : kept ≡ held ++ gained
  pub serves : ServesTo end frames before gained after
