-- What goes over a link, call by call.
use Rattle.std.specs.Prelude.{◌≡◌, ◌++◌, ℕ, List, [], ◌∷◌, Option, Some, None, Result, Ok, Err}
use Rattle.wire_links.specs.declared.link.Heard.{Heard}
use Rattle.wire_links.specs.declared.link.Heard.TheVariants.{Frame, Quiet}
use Rattle.wire_links.specs.declared.link.LinkFault.{LinkFault}
use Rattle.wire_links.specs.declared.link.Link.{Ghosts}
use Rattle.wire_links.specs.Counted.{after_next, after_send}

-- the frame that was heard, if one was
abbrev pub frame_heard : Result Heard LinkFault → Option (List ℕ)
frame_heard (Ok (Frame bytes)) = Some bytes
frame_heard (Ok Quiet) = None
frame_heard (Err fault) = None

-- what a frame's sending comes to
abbrev pub Sending : Type 0
Sending = Result (Unit {0}) LinkFault

-- `next` of the link before answered so, and left the link after, which counted it
pub record Gives {L : Type 0} (of : Ghosts L) (before : L) (answer : Result Heard LinkFault) (after : L) : Type 0 where
  pub gave : of.gives before answer after
  pub counted : of.counts_of after ≡ after_next answer (of.counts_of before)

-- a call of `next` heard this frame, or none
pub record GivesFrame {L : Type 0} (of : Ghosts L) (before : L) (heard : Option (List ℕ)) (after : L) : Type 0 where
  pub answer : Result Heard LinkFault
  pub gives : Gives of before answer after
  pub is : heard ≡ frame_heard answer

-- `send` of the link before answered so of this frame, and left the link after, which counted it
pub record Takes {L : Type 0} (of : Ghosts L) (before : L) (frame : List ℕ) (answer : Sending) (after : L) : Type 0 where
  pub took : of.takes before frame answer after
  pub counted : of.counts_of after ≡ after_send answer (of.counts_of before)

-- the link took these frames, each once and in their order, and each time answered as it may
abbrev pub TakesFrames : {L : Type 0} → (of : Ghosts L) → (May : Sending → Type 0) → (before : L) → List (List ℕ) → (after : L) → Type 0
TakesFrames of May before [] after = before ≡ after
TakesFrames of May before (frame ∷ later) after = (answer : Sending) × May answer × (mid : _) × Takes of before frame answer mid × TakesFrames of May mid later after

-- it took each of them, whatever came of it: a frame whose sending fails is lost, and the next one is sent
abbrev pub TakesEach : {L : Type 0} → (of : Ghosts L) → (before : L) → List (List ℕ) → (after : L) → Type 0
TakesEach of = TakesFrames of (λ answer. Unit {0})

-- it sent all of them
abbrev pub SendsAll : {L : Type 0} → (of : Ghosts L) → (before : L) → List (List ℕ) → (after : L) → Type 0
SendsAll of = TakesFrames of (λ answer. answer ≡ Ok tt)

-- it sent those before one whose sending failed so, and none behind that
pub record SendsUpTo {L : Type 0} (of : Ghosts L) (fault : LinkFault) (before : L) (frames : List (List ℕ)) (after : L) : Type 0 where
  pub first : List (List ℕ)
  pub failed : List ℕ
  pub unsent : List (List ℕ)
  pub mid : L
  pub all : frames ≡ first ++ failed ∷ unsent
  pub sends : SendsAll of before first mid
  pub fails : Takes of mid failed (Err fault) after

-- the frames were sent, up to a fault
abbrev pub SendsTo : {L : Type 0} → (of : Ghosts L) → Sending → (before : L) → List (List ℕ) → (after : L) → Type 0
SendsTo of (Ok done) = SendsAll of
SendsTo of (Err fault) = SendsUpTo of fault
