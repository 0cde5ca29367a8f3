-- A manager, a board and the manager's requests on two buses: what is asked of each moment, without frames or packets.
use Rattle.std.specs.Prelude.{◌≡◌, ◌≢◌, ℕ, ◌+◌, ◌≤◌, List, length, Option, Some, None, slice_get}
use Rattle.two_wire.specs.declared.Bus.{Bus}
use Rattle.model_bus.specs.Request.{Kept}
use Rattle.model_bus.specs.BusState.{BusState}
use Rattle.model_bus.specs.Effect.{SameRequests, BeginsRequest}
use Rattle.model_bus.specs.Answered.{Answered}
use Rattle.model_undo.specs.Family.{Family}
use Rattle.model_undo.specs.Machine.{Counts, count_of, Part, Stage, Opened, AtStart, AtEnd, AtHalt, AtUndone, AtRefused, bus_at}
use Rattle.model_undo.specs.Wires.{number_of, Wires}

-- no request of the manager moves on the other bus
abbrev pub OthersStill : Bus → (Bus → BusState) → (Bus → BusState) → Type 0
OthersStill bus old new = (other : Bus) → other ≢ bus → SameRequests (old other) (new other)

-- every request of the manager has its reply
abbrev pub IsClosed : BusState → Type 0
IsClosed state = length state.begun ≤ length state.taken

-- `first` is the count from which the manager's requests go on, on each bus
module _ (family : Family) (wires : Wires family.words) (first : Bus → ℕ) where
  -- the bytes of the manager's request of this count on a bus, from 0
  abbrev pub request_bytes : Bus → ℕ → family.words.Asked → List ℕ
  request_bytes bus count asked = wires.bytes_of (number_of bus (first bus + count)) asked

  -- the bytes are those of the manager's request of this count on the bus
  pub record IsWritten (bus : Bus) (count : ℕ) (bytes : List ℕ) : Type 0 where
    pub asked : family.words.Asked
    pub on : family.words.bus_of asked ≡ bus
    pub spelled : bytes ≡ request_bytes bus count asked

  -- the reply that is kept answers the request
  pub record KeptAnswers (bus : Bus) (kept : Kept) : Type 0 where
    pub answered : Answered
    pub spelled : kept.reply ≡ wires.reply_to bus kept.request.bytes answered

  -- the manager's requests on a bus: in order, at most one open, and written as they are asked
  pub record Orderly (bus : Bus) (state : BusState) : Type 0 where
    pub answered : length state.taken ≤ length state.carried
    pub below : length state.carried ≤ length state.begun
    pub one_open : length state.begun ≤ length state.taken + 1
    pub written : (count : ℕ) (bytes : List ℕ) → slice_get state.begun count ≡ Some bytes → IsWritten bus count bytes
    pub replied : (count : ℕ) (kept : Kept) → slice_get state.carried count ≡ Some kept → KeptAnswers bus kept

  -- the request is open on its bus, and none on the other
  abbrev pub IsOpen : Part family.words → Bus → BusState → Type 0
  IsOpen part bus state =
      (bus ≡ bus_at family.words part
      → slice_get state.begun (length state.taken) ≡ Some (request_bytes bus (length state.taken) part.asked))
      × (bus ≢ bus_at family.words part → IsClosed state)

  -- the requests that are open are the stage's
  abbrev pub AreOpen : Stage family.words → Bus → BusState → Type 0
  AreOpen (Opened heeded task part) bus state = IsOpen part bus state
  AreOpen AtStart bus state = IsClosed state
  AreOpen AtEnd bus state = IsClosed state
  AreOpen (AtHalt step why) bus state = IsClosed state
  AreOpen AtUndone bus state = IsClosed state
  AreOpen (AtRefused step code) bus state = IsClosed state

  -- the answer in a reply that is kept
  abbrev pub answer_in : Bus → Option Kept → Option Answered
  answer_in bus None = None
  answer_in bus (Some kept) = Some (wires.answered_from bus kept.reply)

  -- the answer that is kept for the open request of a bus
  abbrev pub answer_on : Bus → BusState → Option Answered
  answer_on bus state = answer_in bus (slice_get state.carried (length state.taken))

  -- the answer that is kept for the stage's request
  abbrev pub answer_at : Stage family.words → (Bus → BusState) → Option Answered
  answer_at (Opened heeded task part) on = answer_on (bus_at family.words part) (on (bus_at family.words part))
  answer_at _ on = None

  -- the manager enters a stage: it begins the stage's request, if the stage has one
  abbrev pub EntersStage : Stage family.words → (Bus → BusState) → (Bus → BusState) → Type 0
  EntersStage (Opened heeded task part) old new =
      let bus = bus_at family.words part in
      BeginsRequest (old bus) (new bus) (request_bytes bus (length (old bus).begun) part.asked) × OthersStill bus old new
  EntersStage _ old new = (bus : Bus) → SameRequests (old bus) (new bus)

  -- the machine's counts give the numbers of the requests that are open or next
  abbrev pub AreCounted : Counts → (Bus → BusState) → Type 0
  AreCounted counts on = (bus : Bus) → number_of bus (first bus + length (on bus).taken) ≡ number_of bus (count_of bus counts)
