-- One bus between the manager and the controller's port, and what an event does to it.
use Rattle.std.specs.Prelude.{ℕ, Bool, ◌==◌, nat_lt, ◌&&◌, List, [], ◌∷◌, ◌++◌, length, Option, Some, None, if◌then◌else◌, slice_get}
use Rattle.model_bus.specs.Request.{Request, Kept, Entry, Idled, idles_of}
use Rattle.model_bus.specs.Carried.{Outcome, Repeats, IsBusy, IsNew, outcome, log_after, reply_after, carried_after, log_with, HeardRequest}
use Rattle.model_bus.specs.Numbering.{Rules}

-- what a frame holds: a request of the manager, or a reply under that request's number, none where the port was busy
pub data Content : Type 0 where
  Ask : (bytes : List ℕ) → Content
  Reply : (number : ℕ) (reply : Option (List ℕ)) → Content

-- A frame that was sent. Its request is the place of the manager's request that it carries; a reply has that of the frame
-- whose delivery brought it. `idles` counts how often the manager's window had been forgotten when it was sent.
pub record Frame : Type 0 where
  pub request : ℕ
  pub idles : ℕ
  pub content : Content

-- the bus: what the manager began and took, what the port did, and every frame that was sent
pub record BusState : Type 0 where
  pub begun : List (List ℕ)  -- the bytes of the manager's requests, in the order begun
  pub carried : List Kept  -- those that the port carried out, oldest first
  pub taken : List (List ℕ)  -- the replies that the manager took, in order
  pub log : List Entry  -- what the port did for all requesters, newest first
  pub frames : List Frame  -- every frame that was sent, oldest first

-- what can happen on the bus; a schedule is a list of these
pub data Event : Type 0 where
  -- the manager begins a request, unless one is open
  Begins : (bytes : List ℕ) → Event
  -- it sends the open request again
  SendsAgain : Event
  -- frame `which` reaches the port, where the board would answer this
  ReachesPort : (which : ℕ) (answer : List ℕ) → Event
  -- frame `which` reaches the manager
  ReachesManager : (which : ℕ) → Event
  -- somebody else's request reaches the port
  OtherAsks : (request : Request) (answer : List ℕ) → Event
  -- somebody else's frame reaches the manager, from this address: a reply under this number
  OtherReplies : (source number : ℕ) (reply : List ℕ) → Event
  -- the port forgets a requester's window
  IsIdle : (requester : ℕ) → Event
  -- Another manager takes the manager's place, under the same address. Its requests go on from the number that comes
  -- next, and it knows nothing else of the bus.
  Resumes : Event

-- nothing was begun, over a port that did this before
abbrev pub opening : List Entry → BusState
opening before = record { begun = []; carried = []; taken = []; log = before; frames = [] }

-- the manager's request of this place
abbrev pub request_of : Rules → ℕ → List ℕ → Request
request_of rules place bytes = record { requester = rules.manager; number = rules.number_of place; bytes = bytes }

-- the newest request has no reply yet
abbrev pub is_open : BusState → Bool
is_open state = nat_lt (length state.taken) (length state.begun)

-- a frame of the request of this place is sent now
abbrev pub sent : Rules → ℕ → Content → BusState → BusState
sent rules place content state = record state { frames = state.frames ++ record { request = place; idles = idles_of rules.manager state.log; content = content } ∷ [] }

-- a request is begun, and its frame is sent
abbrev pub begins : Rules → List ℕ → BusState → BusState
begins rules bytes state = sent rules (length state.begun) (Ask bytes) (record state { begun = state.begun ++ bytes ∷ [] })

-- a frame of the open request is sent again, if one is open
abbrev pub sends_again : Rules → Option (List ℕ) → BusState → BusState
sends_again rules None state = state
sends_again rules (Some bytes) state = sent rules (length state.taken) (Ask bytes) state

-- the port hears a request of the manager, and its reply is sent
abbrev pub hears : Rules → ℕ → Kept → BusState → BusState
hears rules place kept state =
    let done = outcome rules.is_above kept.request state.log in
    sent rules place (Reply kept.request.number (reply_after done kept)) (record state { carried = carried_after done kept state.carried; log = log_after done kept state.log })

-- content of the request of this place comes to the port, which ignores replies
abbrev pub comes : Rules → List ℕ → ℕ → Content → BusState → BusState
comes rules answer place (Ask bytes) state = hears rules place (record { request = request_of rules place bytes; reply = answer }) state
comes rules answer place (Reply number reply) state = state

-- the manager takes a reply
abbrev pub takes : List ℕ → BusState → BusState
takes reply state = record state { taken = state.taken ++ reply ∷ [] }

-- The reply that the manager takes from content: one under the open request's number. A manager that looks at more
-- than the number takes fewer; busy counts as no reply.
abbrev pub taken_content : Rules → Content → BusState → Option (List ℕ)
taken_content rules (Ask bytes) state = None
taken_content rules (Reply number None) state = None
taken_content rules (Reply number (Some reply)) state = if is_open state && (number == rules.number_of (length state.taken)) then Some reply else None

-- the manager takes no reply but from the controller's address
abbrev pub taken_from : Rules → ℕ → ℕ → List ℕ → BusState → Option (List ℕ)
taken_from rules source number reply state = if source == rules.controller then taken_content rules (Reply number (Some reply)) state else None

-- the manager takes a reply, if there is one
abbrev pub takes_if : Option (List ℕ) → BusState → BusState
takes_if None state = state
takes_if (Some reply) state = takes reply state

-- a frame comes to the port, if there is such a frame
abbrev pub at_port : Rules → List ℕ → Option Frame → BusState → BusState
at_port rules answer None state = state
at_port rules answer (Some frame) state = comes rules answer frame.request frame.content state

-- the reply that the manager takes, if this frame comes
abbrev pub taken_now : Rules → Option Frame → BusState → Option (List ℕ)
taken_now rules None state = None
taken_now rules (Some frame) state = taken_content rules frame.content state

-- the bytes of the request that the port carries out, if this content comes
abbrev pub new_bytes : Outcome → List ℕ → Option (List ℕ)
new_bytes (Repeats reply) bytes = None
new_bytes IsBusy bytes = None
new_bytes IsNew bytes = Some bytes

-- the bytes of the request that the port carries out, if this content of the request of this place comes
abbrev pub carried_content : Rules → ℕ → Content → BusState → Option (List ℕ)
carried_content rules place (Ask bytes) state = new_bytes (outcome rules.is_above (request_of rules place bytes) state.log) bytes
carried_content rules place (Reply number reply) state = None

-- the bytes of the request that the port carries out, if this frame comes
abbrev pub carried_now : Rules → Option Frame → BusState → Option (List ℕ)
carried_now rules None state = None
carried_now rules (Some frame) state = carried_content rules frame.request frame.content state

-- the bus after an event
abbrev pub happens : Rules → BusState → Event → BusState
happens rules state (Begins bytes) = if is_open state then state else begins rules bytes state
happens rules state SendsAgain = sends_again rules (slice_get state.begun (length state.taken)) state
happens rules state (ReachesPort which answer) = at_port rules answer (slice_get state.frames which) state
happens rules state (ReachesManager which) = takes_if (taken_now rules (slice_get state.frames which) state) state
happens rules state (OtherAsks request answer) = record state { log = log_with rules.is_above (HeardRequest (record { request = request; reply = answer })) state.log }
happens rules state (OtherReplies source number reply) = takes_if (taken_from rules source number reply state) state
happens rules state (IsIdle requester) = record state { log = Idled requester ∷ state.log }
happens rules state Resumes = state

-- the state after a schedule, event by event
abbrev pub run : Rules → List Event → BusState → BusState
run rules [] state = state
run rules (event ∷ events) state = run rules events (happens rules state event)
