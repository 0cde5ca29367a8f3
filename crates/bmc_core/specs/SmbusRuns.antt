-- Lists of what comes to a port on the System Management Bus: apart from the board, and at one.
use Rattle.std.specs.Prelude.{◌≡◌, ℕ, List, [], ◌∷◌, ◌++◌, map, Option, Some, None}
use Rattle.two_wire.specs.Circles.{instances}
use Rattle.two_wire.specs.declared.Bus.TheVariants.{Smbus}
use Rattle.mctp_net.specs.declared.packet.Envelope.{Envelope}
use Rattle.mctp_net.specs.declared.message.Message.{Message}
use Rattle.mctp_net.specs.Control.{reply_to as control_reply_to, eid_after}
use Rattle.mctp_net.specs.declared.packet.Packet.{Packet}
use Rattle.record_base.specs.declared.message.Answered.{Answered}
use Rattle.cfg_records.specs.declared.board_file.BoardFile.{BoardFile}
use Rattle.model_bus.specs.Numbering.{is_above}
use Rattle.model_bus.specs.Carried.{Outcome, Repeats, IsBusy, IsNew, Heard as Brought, HeardRequest, HeardIdle, reply_after, outcomes}
use Rattle.bmc_board.specs.State.{State}
use Rattle.bmc_board.specs.Answer.{answer_of}
use Rattle.bmc_core.specs.Bytes.{said}
use Rattle.bmc_core.specs.Values.{Part, written, parts_of}
use Rattle.bmc_core.specs.PortSteps.{PortState, StepResult, reply_envelope, hears, idles}
use Rattle.bmc_core.specs.Rule.{logs_with}
use Rattle.bmc_core.specs.SmbusHeard.{InMessage, HeardMessage, Ignored, Waiting, Control, Asks, taken, heard_in, asking, asked_of, found, asks, kept_with, Effect, effect}

-- ---- one packet

abbrev pub with_board : State → Effect → StepResult
with_board after effect = record { port = effect.port; board = after; sent = effect.sent }

-- A packet comes to a port of a board. The board answers the new request that the packet completes at that moment, and the port does what it does
-- once it gets that answer. Where the packet completes none, the board stays as it was, and the port does the same whatever the board would
-- answer.
pub record IsHeardThenAnswered (setup : BoardFile) (port : PortState) (before : State) (packet : Packet) : Type 0 where
  pub answered : (asking : InMessage) → asks (taken port packet) (heard_in port packet) ≡ Some asking
      → let given = answer_of setup before (asked_of asking) in hears setup port before (Part packet) ≡ with_board given.1 (effect (taken port packet) (Asks asking) given.0)
  pub settled : asks (taken port packet) (heard_in port packet) ≡ None → (answered : Answered)
      → hears setup port before (Part packet) ≡ with_board before (effect (taken port packet) (heard_in port packet) answered)

-- and so it is for each packet, port and board
abbrev pub AreHeardThenAnswered : Type 0
AreHeardThenAnswered = (setup : BoardFile) (port : PortState) (before : State) (packet : Packet) → IsHeardThenAnswered setup port before packet

-- ---- lists with no board in them

-- What comes to a port: a packet, an answer to a request that it heard, or the news that a requester is idle. A new request is dropped if the port
-- hears it and never gets its answer.
pub data Arrival : Type 0 where
  Comes : Packet → Arrival
  Answers : InMessage → Answered → Arrival
  IsIdle : ℕ → Arrival

-- the port that has heard this: where the board is asked a new request, the port has taken the packet and nothing else
abbrev pub once_heard : PortState → HeardMessage → Option InMessage → PortState
once_heard port heard (Some asking) = port
once_heard port heard None = (effect port heard (record { code = 0; body = [] })).port

-- the port after one more event
abbrev pub port_after : PortState → Arrival → PortState
port_after port (Comes packet) = once_heard (taken port packet) (heard_in port packet) (asks (taken port packet) (heard_in port packet))
port_after port (Answers asking answered) = (effect port (Asks asking) answered).port
port_after port (IsIdle requester) = idles requester port

-- and after all
abbrev pub ports_after : PortState → List Arrival → PortState
ports_after port [] = port
ports_after port (coming ∷ comings) = ports_after (port_after port coming) comings

-- the requests of the list whose answers the port got, and the idle requesters
abbrev pub brought : List Arrival → List Brought
brought [] = []
brought (Comes packet ∷ comings) = brought comings
brought (Answers asking answered ∷ comings) = HeardRequest (kept_with asking answered) ∷ brought comings
brought (IsIdle requester ∷ comings) = HeardIdle requester ∷ brought comings

-- what the port does with each request whose answer it gets
abbrev pub done_with_answered : PortState → List Arrival → List Outcome
done_with_answered port [] = []
done_with_answered port (Comes packet ∷ comings) = done_with_answered (port_after port (Comes packet)) comings
done_with_answered port (Answers asking answered ∷ comings) = found port asking ∷ done_with_answered (port_after port (Answers asking answered)) comings
done_with_answered port (IsIdle requester ∷ comings) = done_with_answered (port_after port (IsIdle requester)) comings

-- a reply of these bytes, to a message of this envelope
abbrev pub reply_of : PortState → Envelope → List ℕ → Message
reply_of port envelope body = record { envelope = reply_envelope port envelope; body = body }

-- the reply to a request: a reply that is kept, or the board's, or that of a busy port
abbrev pub reply_saying : PortState → InMessage → Option (List ℕ) → Message
reply_saying port message reply = reply_of port message.envelope (said Smbus (asking message) reply)

-- the frames of messages
abbrev pub all_frames : List Message → List (List ℕ)
all_frames [] = []
all_frames (message ∷ messages) = map written (map (λ packet. Part packet) (parts_of message)) ++ all_frames messages

-- the replies with that to a request before them: the port sends it when it hears the request, unless the request is new
abbrev pub settled_then : PortState → InMessage → Outcome → List Message → List Message
settled_then port asking (Repeats reply) rest = reply_saying port asking (Some reply) ∷ rest
settled_then port asking IsBusy rest = reply_saying port asking None ∷ rest
settled_then port asking IsNew rest = rest

-- the replies with the endpoint's to a control message before them, from the identifier that the endpoint has then
abbrev pub replied_then : PortState → HeardMessage → List Message → List Message
replied_then port (Ignored why) rest = rest
replied_then port Waiting rest = rest
replied_then port (Control envelope request) rest = reply_of (record port { eid = eid_after port.eid request.command request.content }) envelope (control_reply_to port.eid request) ∷ rest
replied_then port (Asks request) rest = settled_then port request (found port request) rest

-- the replies to a list of events, by the rule
abbrev pub replied : PortState → List Arrival → List Message
replied port [] = []
replied port (Comes packet ∷ comings) = replied_then (taken port packet) (heard_in port packet) (replied (port_after port (Comes packet)) comings)
replied port (Answers asking answered ∷ comings) = reply_saying port asking (reply_after (found port asking) (kept_with asking answered)) ∷ replied (port_after port (Answers asking answered)) comings
replied port (IsIdle requester ∷ comings) = replied (port_after port (IsIdle requester)) comings

-- the frames that a port sends when it hears this, by the new request that the board is asked, if any
abbrev pub sent_once_heard : PortState → HeardMessage → Option InMessage → List (List ℕ)
sent_once_heard port heard (Some asking) = []
sent_once_heard port heard None = map written (effect port heard (record { code = 0; body = [] })).sent

-- the frames that a port sends at one event
abbrev pub sent_at : PortState → Arrival → List (List ℕ)
sent_at port (Comes packet) = sent_once_heard (taken port packet) (heard_in port packet) (asks (taken port packet) (heard_in port packet))
sent_at port (Answers asking answered) = map written (effect port (Asks asking) answered).sent
sent_at port (IsIdle requester) = []

-- and in all
abbrev pub all_sent : PortState → List Arrival → List (List ℕ)
all_sent port [] = []
all_sent port (coming ∷ comings) = sent_at port coming ++ all_sent (port_after port coming) comings

-- The port carries out and keeps the requests of the rule, over the requests whose answers it gets, whatever packets it hears between and
-- whatever requests are dropped. It sends, frame for frame, the replies of the rule, and the endpoint's to control messages.
pub record KeepsTheRule (port : PortState) (cs : List Arrival) : Type 0 where
  pub log : (ports_after port cs).log ≡ logs_with (is_above instances) (brought cs) port.log
  pub done : done_with_answered port cs ≡ outcomes (is_above instances) port.log (brought cs)
  pub sent : all_sent port cs ≡ all_frames (replied port cs)

-- ---- lists at a board

-- what happens at a port and its board: a packet comes, a requester is idle, or others leave another state of the board
pub data PortEvent : Type 0 where
  Hears : Packet → PortEvent
  Idles : ℕ → PortEvent
  Others : State → PortEvent

-- a port and its board
pub record PortAndBoard : Type 0 where
  pub port : PortState
  pub board : State

-- the port and its board after one more event
abbrev pub ends_after : BoardFile → PortAndBoard → PortEvent → PortAndBoard
ends_after setup ends (Hears packet) = let deed = hears setup ends.port ends.board (Part packet) in record { port = deed.port; board = deed.board }
ends_after setup ends (Idles requester) = record { port = idles requester ends.port; board = ends.board }
ends_after setup ends (Others board) = record { port = ends.port; board = board }

-- and after all
abbrev pub all_after : BoardFile → PortAndBoard → List PortEvent → PortAndBoard
all_after setup ends [] = ends
all_after setup ends (happening ∷ happenings) = all_after setup (ends_after setup ends happening) happenings

-- the requests with the one that is heard, if any, before them, with the board's answer at that moment
abbrev pub heard_then : BoardFile → State → HeardMessage → List Brought → List Brought
heard_then setup before (Asks request) rest = HeardRequest (kept_with request (answer_of setup before (asked_of request)).0) ∷ rest
heard_then setup before (Ignored why) rest = rest
heard_then setup before Waiting rest = rest
heard_then setup before (Control envelope request) rest = rest

-- the requests that the port hears, each with the board's answer at that moment, and the idle requesters
abbrev pub heard_in_all : BoardFile → PortAndBoard → List PortEvent → List Brought
heard_in_all setup ends [] = []
heard_in_all setup ends (Hears packet ∷ happenings) = heard_then setup ends.board (heard_in ends.port packet) (heard_in_all setup (ends_after setup ends (Hears packet)) happenings)
heard_in_all setup ends (Idles requester ∷ happenings) = HeardIdle requester ∷ heard_in_all setup (ends_after setup ends (Idles requester)) happenings
heard_in_all setup ends (Others board ∷ happenings) = heard_in_all setup (ends_after setup ends (Others board)) happenings

-- what the port does with requests, with the request that is heard, if any, before them
abbrev pub done_then : PortState → HeardMessage → List Outcome → List Outcome
done_then port (Asks request) rest = found port request ∷ rest
done_then port (Ignored why) rest = rest
done_then port Waiting rest = rest
done_then port (Control envelope request) rest = rest

-- what the port does with each request that it hears
abbrev pub done_in_all : BoardFile → PortAndBoard → List PortEvent → List Outcome
done_in_all setup ends [] = []
done_in_all setup ends (Hears packet ∷ happenings) = done_then (taken ends.port packet) (heard_in ends.port packet) (done_in_all setup (ends_after setup ends (Hears packet)) happenings)
done_in_all setup ends (Idles requester ∷ happenings) = done_in_all setup (ends_after setup ends (Idles requester)) happenings
done_in_all setup ends (Others board ∷ happenings) = done_in_all setup (ends_after setup ends (Others board)) happenings

-- the replies with the reply to what is heard before them: to a request by the rule, with the board's answer at that moment to a new one
abbrev pub answered_then : BoardFile → State → PortState → HeardMessage → List Message → List Message
answered_then setup before port (Asks request) rest = reply_saying port request (reply_after (found port request) (kept_with request (answer_of setup before (asked_of request)).0)) ∷ rest
answered_then setup before port (Control envelope request) rest = replied_then port (Control envelope request) rest
answered_then setup before port (Ignored why) rest = rest
answered_then setup before port Waiting rest = rest

-- the replies to a list of events
abbrev pub answered_in_all : BoardFile → PortAndBoard → List PortEvent → List Message
answered_in_all setup ends [] = []
answered_in_all setup ends (Hears packet ∷ happenings) = answered_then setup ends.board (taken ends.port packet) (heard_in ends.port packet) (answered_in_all setup (ends_after setup ends (Hears packet)) happenings)
answered_in_all setup ends (Idles requester ∷ happenings) = answered_in_all setup (ends_after setup ends (Idles requester)) happenings
answered_in_all setup ends (Others board ∷ happenings) = answered_in_all setup (ends_after setup ends (Others board)) happenings

-- the frames that the port sends at one event
abbrev pub sent_when : BoardFile → PortAndBoard → PortEvent → List (List ℕ)
sent_when setup ends (Hears packet) = map written (hears setup ends.port ends.board (Part packet)).sent
sent_when setup ends (Idles requester) = []
sent_when setup ends (Others board) = []

-- and in all
abbrev pub sent_in_all : BoardFile → PortAndBoard → List PortEvent → List (List ℕ)
sent_in_all setup ends [] = []
sent_in_all setup ends (happening ∷ happenings) = sent_when setup ends happening ++ sent_in_all setup (ends_after setup ends happening) happenings

-- The port carries out the requests of the rule, over all requests that it hears, whatever others do to the board between. It sends, frame for
-- frame, the replies of the rule, and the endpoint's to control messages.
pub record CarriesTheRule (setup : BoardFile) (ends : PortAndBoard) (es : List PortEvent) : Type 0 where
  pub log : (all_after setup ends es).port.log ≡ logs_with (is_above instances) (heard_in_all setup ends es) ends.port.log
  pub done : done_in_all setup ends es ≡ outcomes (is_above instances) ends.port.log (heard_in_all setup ends es)
  pub sent : sent_in_all setup ends es ≡ all_frames (answered_in_all setup ends es)
