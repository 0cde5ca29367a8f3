-- Lists of what comes to a port on IPMB: apart from the board, and at one.
use Rattle.std.specs.Prelude.{◌≡◌, ◌≢◌, ℕ, List, [], ◌∷◌, ◌++◌, map, Option, Some, None, Result, Ok, Err}
use Rattle.two_wire.specs.Circles.{sequence_numbers}
use Rattle.ipmb_frame.specs.declared.message.Request.{Request}
use Rattle.record_base.specs.declared.message.Answered.{Answered}
use Rattle.cfg_records.specs.declared.board_file.BoardFile.{BoardFile}
use Rattle.model_bus.specs.Request.{Entry, Idled}
use Rattle.model_bus.specs.Numbering.{is_above}
use Rattle.model_bus.specs.Carried.{Outcome, Repeats, IsBusy, IsNew, Heard as Brought, HeardRequest, HeardIdle, outcome, log_with, reply_after, outcomes}
use Rattle.bmc_board.specs.State.{State}
use Rattle.bmc_board.specs.Answer.{answer_of}
use Rattle.bmc_core.specs.Bytes.{heard_in}
use Rattle.bmc_core.specs.Values.{written}
use Rattle.bmc_core.specs.PortSteps.{PortState, StepResult, asked_in, response_after, hears_request, idles}
use Rattle.bmc_core.specs.declared.out.Reason.{Reason}
use Rattle.bmc_core.specs.Outs.{sent}
use Rattle.bmc_core.specs.Rule.{logs_with, replies}
use Rattle.bmc_core.specs.IpmbShown.{outcome_at, kept_of, after, out_after, step_result_of}

-- ---- one request

-- what becomes of the port once it gets this answer to the request, beside this board
abbrev pub answered_deed : PortState → Request → Answered → State → StepResult
answered_deed port request answered board = record { port = after port request answered; board = board; sent = response_after request (reply_after (outcome_at port request) (kept_of request answered)) ∷ [] }

-- A request comes to a port of a board. The board answers a new request at that moment, and the port does what it does once it gets that
-- answer. Of any other request the board stays as it was, and the port does the same whatever the board would answer.
pub record IsHeardThenAnswered (setup : BoardFile) (port : PortState) (before : State) (request : Request) : Type 0 where
  pub answered : outcome_at port request ≡ IsNew → let given = answer_of setup before (asked_in request) in hears_request setup port before request ≡ answered_deed port request given.0 given.1
  pub settled : outcome_at port request ≢ IsNew → (answered : Answered) → hears_request setup port before request ≡ answered_deed port request answered before

-- and so it is for each request, port and board
abbrev pub AreHeardThenAnswered : Type 0
AreHeardThenAnswered = (setup : BoardFile) (port : PortState) (before : State) (request : Request) → IsHeardThenAnswered setup port before request

-- ---- lists with no board in them

-- What comes to a port: a frame in which it hears this, an answer to a request that it heard, or the news that a requester is idle. A new
-- request is dropped if the port hears it and never gets its answer.
pub data Arrival : Type 0 where
  Comes : Result Request Reason → Arrival
  Answers : Request → Answered → Arrival
  IsIdle : ℕ → Arrival

-- the port after one more event: a frame that it hears changes nothing by itself
abbrev pub port_after : PortState → Arrival → PortState
port_after port (Comes heard) = port
port_after port (Answers asking answered) = after port asking answered
port_after port (IsIdle requester) = idles requester port

-- and after all
abbrev pub ports_after : PortState → List Arrival → PortState
ports_after port [] = port
ports_after port (coming ∷ comings) = ports_after (port_after port coming) comings

-- the requests of the list whose answers the port got, and the idle requesters
abbrev pub brought : List Arrival → List Brought
brought [] = []
brought (Comes heard ∷ comings) = brought comings
brought (Answers asking answered ∷ comings) = HeardRequest (kept_of asking answered) ∷ brought comings
brought (IsIdle requester ∷ comings) = HeardIdle requester ∷ brought comings

-- what the port does with each request whose answer it gets
abbrev pub done_with_answered : PortState → List Arrival → List Outcome
done_with_answered port [] = []
done_with_answered port (Comes heard ∷ comings) = done_with_answered port comings
done_with_answered port (Answers asking answered ∷ comings) = outcome_at port asking ∷ done_with_answered (after port asking answered) comings
done_with_answered port (IsIdle requester ∷ comings) = done_with_answered (idles requester port) comings

-- a request and the reply to it, none where the port is busy
pub record ReplyMade : Type 0 where
  pub request : Request
  pub reply : Option (List ℕ)

-- the frame of its response
abbrev pub response_of : ReplyMade → List ℕ
response_of replied = written (response_after replied.request replied.reply)

-- the replies with that to a request before them: the port sends it when it hears the request, unless the request is new
abbrev pub settled_then : Request → Outcome → List ReplyMade → List ReplyMade
settled_then request (Repeats reply) rest = record { request = request; reply = Some reply } ∷ rest
settled_then request IsBusy rest = record { request = request; reply = None } ∷ rest
settled_then request IsNew rest = rest

-- the replies to a list of events, by the rule
abbrev pub replied : List Entry → List Arrival → List ReplyMade
replied log [] = []
replied log (Comes (Ok request) ∷ comings) = settled_then request (outcome (is_above sequence_numbers) (heard_in request) log) (replied log comings)
replied log (Comes (Err why) ∷ comings) = replied log comings
replied log (Answers asking answered ∷ comings) =
    record { request = asking; reply = reply_after (outcome (is_above sequence_numbers) (heard_in asking) log) (kept_of asking answered) } ∷ replied (log_with (is_above sequence_numbers) (HeardRequest (kept_of asking answered)) log) comings
replied log (IsIdle requester ∷ comings) = replied (Idled requester ∷ log) comings

-- the frames that a port sends when it hears a request, by what the rule does with it
abbrev pub sent_when_heard : Request → Outcome → List (List ℕ)
sent_when_heard request (Repeats reply) = written (response_after request (Some reply)) ∷ []
sent_when_heard request IsBusy = written (response_after request None) ∷ []
sent_when_heard request IsNew = []

-- the frames that a port sends at one event
abbrev pub sent_at : PortState → Arrival → List (List ℕ)
sent_at port (Comes (Ok request)) = sent_when_heard request (outcome_at port request)
sent_at port (Comes (Err why)) = []
sent_at port (Answers asking answered) = sent (out_after port asking answered)
sent_at port (IsIdle requester) = []

-- and in all
abbrev pub all_sent : PortState → List Arrival → List (List ℕ)
all_sent port [] = []
all_sent port (coming ∷ comings) = sent_at port coming ++ all_sent (port_after port coming) comings

-- The port carries out and keeps the requests of the rule, over the requests whose answers it gets, whatever frames it hears between and
-- whatever requests are dropped. It sends, frame for frame, the responses with the rule's replies.
pub record KeepsTheRule (port : PortState) (cs : List Arrival) : Type 0 where
  pub log : (ports_after port cs).log ≡ logs_with (is_above sequence_numbers) (brought cs) port.log
  pub done : done_with_answered port cs ≡ outcomes (is_above sequence_numbers) port.log (brought cs)
  pub sent : all_sent port cs ≡ map response_of (replied port.log cs)

-- ---- lists at a board

-- what happens at a port and its board: the port hears this in a frame, a requester is idle, or others leave another state of the board
pub data PortEvent : Type 0 where
  Hears : Result Request Reason → PortEvent
  Idles : ℕ → PortEvent
  Others : State → PortEvent

-- a port and its board
pub record PortAndBoard : Type 0 where
  pub port : PortState
  pub board : State

-- the port and its board after one more event
abbrev pub ends_after : BoardFile → PortAndBoard → PortEvent → PortAndBoard
ends_after setup ends (Hears heard) = let deed = step_result_of setup ends.port ends.board heard in record { port = deed.port; board = deed.board }
ends_after setup ends (Idles requester) = record { port = idles requester ends.port; board = ends.board }
ends_after setup ends (Others board) = record { port = ends.port; board = board }

-- and after all
abbrev pub all_after : BoardFile → PortAndBoard → List PortEvent → PortAndBoard
all_after setup ends [] = ends
all_after setup ends (happening ∷ happenings) = all_after setup (ends_after setup ends happening) happenings

-- the requests that the port hears, each with the board's answer at that moment, and the idle requesters
abbrev pub heard_in_all : BoardFile → PortAndBoard → List PortEvent → List Brought
heard_in_all setup ends [] = []
heard_in_all setup ends (Hears (Ok request) ∷ happenings) =
    HeardRequest (kept_of request (answer_of setup ends.board (asked_in request)).0) ∷ heard_in_all setup (ends_after setup ends (Hears (Ok request))) happenings
heard_in_all setup ends (Hears (Err why) ∷ happenings) = heard_in_all setup ends happenings
heard_in_all setup ends (Idles requester ∷ happenings) = HeardIdle requester ∷ heard_in_all setup (ends_after setup ends (Idles requester)) happenings
heard_in_all setup ends (Others board ∷ happenings) = heard_in_all setup (ends_after setup ends (Others board)) happenings

-- what the port does with each request that it hears
abbrev pub done_in_all : BoardFile → PortAndBoard → List PortEvent → List Outcome
done_in_all setup ends [] = []
done_in_all setup ends (Hears (Ok request) ∷ happenings) = outcome_at ends.port request ∷ done_in_all setup (ends_after setup ends (Hears (Ok request))) happenings
done_in_all setup ends (Hears (Err why) ∷ happenings) = done_in_all setup ends happenings
done_in_all setup ends (Idles requester ∷ happenings) = done_in_all setup (ends_after setup ends (Idles requester)) happenings
done_in_all setup ends (Others board ∷ happenings) = done_in_all setup (ends_after setup ends (Others board)) happenings

-- the requests that the port hears
abbrev pub requests_in : List PortEvent → List Request
requests_in [] = []
requests_in (Hears (Ok request) ∷ happenings) = request ∷ requests_in happenings
requests_in (Hears (Err why) ∷ happenings) = requests_in happenings
requests_in (Idles requester ∷ happenings) = requests_in happenings
requests_in (Others board ∷ happenings) = requests_in happenings

-- the frames of the responses to these requests with these replies
abbrev pub responses : List Request → List (Option (List ℕ)) → List (List ℕ)
responses [] rest = []
responses (request ∷ requests) [] = []
responses (request ∷ requests) (reply ∷ rest) = written (response_after request reply) ∷ responses requests rest

-- the frames that the port sends at one event
abbrev pub sent_when : BoardFile → PortAndBoard → PortEvent → List (List ℕ)
sent_when setup ends (Hears heard) = map written (step_result_of setup ends.port ends.board heard).sent
sent_when setup ends (Idles requester) = []
sent_when setup ends (Others board) = []

-- and in all
abbrev pub sent_in_all : BoardFile → PortAndBoard → List PortEvent → List (List ℕ)
sent_in_all setup ends [] = []
sent_in_all setup ends (happening ∷ happenings) = sent_when setup ends happening ++ sent_in_all setup (ends_after setup ends happening) happenings

-- The port carries out the requests of the rule, over all requests that it hears, whatever others do to the board between. It sends, frame for
-- frame, the responses to the requests with the rule's replies.
pub record CarriesTheRule (setup : BoardFile) (ends : PortAndBoard) (es : List PortEvent) : Type 0 where
  pub log : (all_after setup ends es).port.log ≡ logs_with (is_above sequence_numbers) (heard_in_all setup ends es) ends.port.log
  pub done : done_in_all setup ends es ≡ outcomes (is_above sequence_numbers) ends.port.log (heard_in_all setup ends es)
  pub sent : sent_in_all setup ends es ≡ responses (requests_in es) (replies (is_above sequence_numbers) ends.port.log (heard_in_all setup ends es))
