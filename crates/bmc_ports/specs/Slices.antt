-- Ports and links that workers are lent for some of their turns, and give back.
use Rattle.std.specs.Prelude.{◌≡◌, ◌⊎◌, ◌+◌, ◌≤◌, ◌++◌, ◌∷◌, ℕ, List, [], length, Option, Some, None, true}
use Rattle.bmc_core.specs.Port.{bus_of}
use Rattle.bmc_core.specs.declared.port.Port.{Port}
use Rattle.wire_links.specs.declared.link.Link.{Ghosts}
use Rattle.wire_links.specs.Counted.{counted_on}
use Rattle.bmc_shared.specs.declared.event.Call.{Call}
use Rattle.bmc_shared.specs.declared.seat.Seat.{Seat}
use Rattle.bmc_shared.specs.declared.worker.End.{End}
use Rattle.bmc_shared.specs.declared.worker.End.TheVariants.{Turns, Full}
use Rattle.bmc_shared.specs.Serving.{MakesTurn}
use Rattle.bmc_ports.specs.declared.lane.Lane.{Lane}
use Rattle.bmc_ports.specs.declared.lane.Lanes.{Lanes}
use Rattle.bmc_ports.specs.declared.slices.WorkerLoan.{WorkerLoan}
use Rattle.bmc_ports.specs.declared.timetable.TimedEnd.{TimedEnd}
use Rattle.bmc_ports.specs.declared.timetable.TimedEnd.TheVariants as timed
use Rattle.bmc_ports.specs.Since.{CountsOn, Hearing}
use Rattle.bmc_ports.specs.Silence.{AreCounted, ForgetsRequesters}

-- ---- quiet

-- for so many turns in a row, up to now, nothing was heard over a link
abbrev pub IsQuiet : (before : ℕ) → List Hearing → (after : ℕ) → Type 0
IsQuiet = CountsOn (λ frame. Unit {0})

-- a link was quiet for the least number of turns, where there is one
abbrev pub IsQuietFor : (least : Option ℕ) → (quiet : ℕ) → Type 0
IsQuietFor None quiet = ⊥
IsQuietFor (Some least) quiet = least ≤ quiet

-- both links were quiet for it
abbrev pub AreQuiet : {A B : Type 0} → (least : Option ℕ) → Lanes A B → Type 0
AreQuiet least lanes = IsQuietFor least lanes.first.quiet × IsQuietFor least lanes.second.quiet

-- both workers made all their turns
abbrev pub AreOver : {A B : Type 0} → Lanes A B → Type 0
AreOver lanes = (lanes.first.turns ≡ 0) × (lanes.second.turns ≡ 0)

-- the serving is over, however much room a history has
abbrev pub EndsAt : {A B : Type 0} → (least : Option ℕ) → Lanes A B → Type 0
EndsAt least lanes = AreOver lanes ⊎ AreQuiet least lanes

-- a worker found no room in a history, or the scanner didn't
abbrev pub NoRoom : (one two : End) → (scanner : TimedEnd) → Type 0
NoRoom one two scanner = ((one ≡ Full) ⊎ (two ≡ Full)) ⊎ (scanner ≡ timed.Full)

-- the serving of a history is over: there was no room in it, or all is over
abbrev pub IsDone : {A B : Type 0} → (least : Option ℕ) → (one two : End) → (scanner : TimedEnd) → Lanes A B → Type 0
IsDone least one two scanner lanes = NoRoom one two scanner ⊎ EndsAt least lanes

-- ---- turns

-- A worker made one of a lane's turns, heard this in it, and ended so by it, or would; then the port forgot those that were silent for just as
-- many turns as the lane says, if it does.
pub record IsTurn {L : Type 0} (of : Ghosts L) (end : End) (heard : Hearing) (held kept : List Call) (before after : Lane L) : Type 0 where
  pub between : Port
  pub made : MakesTurn of end heard before.port between held kept before.link after.link
  pub forgets : ForgetsRequesters before.forget after.silence between after.port
  pub silence : AreCounted before.forget (bus_of before.port) before.silence (heard ∷ []) after.silence
  pub forget : after.forget ≡ before.forget
  pub turns : after.turns + 1 ≡ before.turns
  pub quiet : IsQuiet before.quiet (heard ∷ []) after.quiet
  pub bus : bus_of after.port ≡ bus_of before.port

-- a worker made a turn that ended so
abbrev pub SomeTurn : {L : Type 0} → (of : Ghosts L) → End → (held kept : List Call) → (before after : Lane L) → Type 0
SomeTurn of end held kept before after = (heard : Hearing) × IsTurn of end heard held kept before after

-- turns, one after another, in each of which the worker found room
abbrev pub FindRoom : {L : Type 0} → (of : Ghosts L) → List Hearing → (held kept : List Call) → (before after : Lane L) → Type 0
FindRoom {L} of [] held kept before after = (held ≡ kept) × (before ≡ after)
FindRoom {L} of (heard ∷ later) held kept before after =
    (list : List Call) × (mid : Lane L) × IsTurn of Turns heard held list before mid × FindRoom of later list kept mid after

-- turns, in the last of which the worker found no room
pub record FindRoomButLast {L : Type 0} (of : Ghosts L) (heard : List Hearing) (held kept : List Call) (before after : Lane L) : Type 0 where
  pub first : List Hearing
  pub last : Hearing
  pub list : List Call
  pub mid : Lane L
  pub all : heard ≡ first ++ last ∷ []
  pub found : FindRoom of first held list before mid
  pub full : IsTurn of Full last list kept mid after

-- turns of a worker that ended so
abbrev pub AreTurns : {L : Type 0} → (of : Ghosts L) → End → List Hearing → (held kept : List Call) → (before after : Lane L) → Type 0
AreTurns of Turns = FindRoom of
AreTurns of Full = FindRoomButLast of

-- A worker made these turns of a lane, each one call of the link's `next`, and ended so; the others are left. In each turn the port took what
-- the link heard, and got the replies that the seat's list gained. Where the port forgets requesters, the silence of each requester is counted.
pub record TurnsMade {L : Type 0} (of : Ghosts L) (end : End) (heard : List Hearing) (held kept : List Call) (before after : Lane L) : Type 0 where
  pub turns : length heard + after.turns ≡ before.turns
  pub calls : (of.counts_of after.link).calls ≡ counted_on (of.counts_of before.link).calls (length heard)
  pub quiet : IsQuiet before.quiet heard after.quiet
  pub silence : AreCounted before.forget (bus_of before.port) before.silence heard after.silence
  pub forget : after.forget ≡ before.forget
  pub bus : bus_of after.port ≡ bus_of before.port
  pub made : AreTurns of end heard held kept before after

-- A worker of a port ended so. It made some of the turns that it had, and at least one where it had any.
pub record WorkerEnd {L : Type 0} (of : Ghosts L) (end : End) (held kept : List Call) (before after : Lane L) : Type 0 where
  pub heard : List Hearing
  pub least : 1 ≤ before.turns → 1 ≤ length heard
  pub makes : TurnsMade of end heard held kept before after

-- The seat comes back from its worker, marked where that found no room and else as it was, and so do the port and its link.
pub record IsBack {J : Type 0} {g h : _} {L : Type 0} (of : Ghosts L) (seat : Seat J g) (lane : Lane L) (after : Seat J h) (left : Lane L) (end : End) : Type 0 where
  pub number : after.number ≡ seat.number
  pub marked : end ≡ Full → after.refused ≡ true
  pub mark : end ≡ Turns → after.refused ≡ seat.refused
  pub goes : WorkerEnd of end seat.calls.items after.calls.items lane left

-- so does all that a worker was lent
abbrev pub GivesBack : {J L : Type 0} {g h : _} → (of : Ghosts L) → (lent : WorkerLoan J L g) → (after : WorkerLoan J L h) → End → Type 0
GivesBack of lent after end = IsBack of lent.seat lent.lane after.seat after.lane end
