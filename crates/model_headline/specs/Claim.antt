-- The claim: after every honest schedule the manager's phase says what the records are, and undone means that each is what it was.
use Rattle.std.specs.Prelude.{◌≡◌, ◌≢◌, ◌⊎◌, ℕ, zero, suc, ◌+◌, ◌<◌, ◌≤◌, true, false, List, [], ◌∷◌, ◌++◌, length, All, Option, Some, None, Result, Ok, slice_get}
use Rattle.std.specs.Option.{option_map}
use Rattle.ipmb_frame.specs.declared.message.Msg.{Msg}
use Rattle.ipmb_frame.specs.Grammar.{IsMessage}
use Rattle.mctp_net.specs.Grammar.{IsPacket}
use Rattle.mctp_net.specs.Control.{request_of, reply_to, eid_after}
use Rattle.pldm_base.specs.Message.{IsRequest}
use Rattle.record_base.specs.declared.key.Key.{Key}
use Rattle.cfg_records.specs.declared.board_file.BoardFile.{BoardFile}
use Rattle.cfg_records.specs.Boards.{pairs_of}
use Rattle.cfg_records.specs.Records.{Records, records_of, with_record}
use Rattle.record_kinds.specs.declared.limits.Limits.{Limits}
use Rattle.record_kinds.specs.Limits.{key_of, restorable, limits_at, sets, view, conf}
use Rattle.bmc_board.specs.State.{State, opened}
use Rattle.bmc_board.specs.Request.{Request, Get, Set, SetStores, PartOfSet, LaterPart, asked_by}
use Rattle.bmc_board.specs.Table.{is_changing}
use Rattle.bmc_board.specs.Answer.{answer_of}
use Rattle.model_headline.specs.Frames.{Bus, Ipmb, Smbus, Packet, Value, Part, span, is_taken}
use Rattle.model_headline.specs.Manager.{success, Op, Asked, Ipmi, Pldm, Answered, Names, Why, Stop, GetRefused, Refused, NotRestorable, Gets, Sets, Undoes, Phase, Fresh, Open, Done, Halted, Undone, UndoRefused, own_on, by_manager, Series, Reads, sends, first_of, next_after, first_shown, shown_by, open_in}
use Rattle.model_headline.specs.Lab.{PldmRequest, Controller, Heard, Carried, heard_in, pldm_heard, Way, ToPort, ToManager, Frame, Event, Calls, ToBmc, ToMgr, OtherIpmb, OtherSmbus, Noise, Idles, OnBench, Lab, port_on, idles_on, step, run, opening}

module _ (setup : BoardFile) where
  -- the operation is accepted at these records, and leaves those: its own record is changed, and no other
  pub record SetsTo (op : Op) (old new : Records) : Type 0 where
    pub limits : Limits
    pub before : List ℕ
    pub after : List ℕ
    pub within : limits_at setup (key_of op) ≡ Some limits
    pub found : old (key_of op) ≡ Some before
    pub accepted : sets limits op before after
    pub changed : new ≡ with_record old (key_of op) after

  -- A Get is answered with 00h and a view of its record's value (of a long attribute's, the first part), or refused where there is none.
  abbrev pub AnswersGet : Option Limits → Option (List ℕ) → State → Answered → Type 0
  AnswersGet (Some limits) (Some value) before answered = answered ≡ record { code = success; body = first_shown limits (view limits value before.activity.live) }
  AnswersGet limits value before answered = answered.code ≢ success

  -- What is asked for is answered so, and leaves such a board. A Set changes its own record alone, or can't be accepted and is refused. A part of a Set
  -- leaves every record, or is carried out as such a Set. No honest event has a request that sets two. Any other leaves every record, whatever its answer.
  abbrev pub IsAnsweredRequest : Result Request ℕ → (before : State) → Answered → (after : State) → Type 0
  IsAnsweredRequest (Ok (Get key)) before answered after = (after.records ≡ before.records) × AnswersGet (limits_at setup key) (before.records key) before answered
  IsAnsweredRequest (Ok (Set op)) before answered after = ((answered.code ≡ success) × SetsTo op before.records after.records)
      ⊎ ((answered.code ≢ success) × (after.records ≡ before.records) × ((other : Records) → ¬ SetsTo op before.records other))
  IsAnsweredRequest (Ok (PartOfSet from part)) before answered after = (after.records ≡ before.records) ⊎ ((answered.code ≡ success) × (op : Op) × SetsTo op before.records after.records)
  IsAnsweredRequest (Ok (SetStores first second)) before answered after = answered.code ≢ success → after.records ≡ before.records
  IsAnsweredRequest request before answered after = after.records ≡ before.records

  -- it begins with the file's records and nothing staged, and serves each request so
  pub record IsController (controller : Controller) : Type 0 where
    pub begins : (controller.begins.records ≡ records_of (pairs_of setup)) × (controller.begins.activity.stagings ≡ [])
    pub serves : (before : State) (asked : Asked) → IsAnsweredRequest (asked_by asked) before (controller.answer before asked).0 (controller.answer before asked).1

  -- The controller that the claim is of. Its board is as above, which is all that needs to be known of its answers.
  abbrev pub ours : Controller
  ours = record { begins = opened setup; answer = answer_of setup; control = λ eid body. option_map (λ request. (eid_after eid request.command request.content, reply_to eid request)) (request_of body) }

  -- the records are those at the start with the first steps of the plan done, in order
  abbrev pub IsAfter : List Op → (start : Records) → (steps : ℕ) → Records → Type 0
  IsAfter plan start zero now = now ≡ start
  IsAfter plan start (suc steps) now = (before : Records) × (op : Op) × IsAfter plan start steps before × (slice_get plan steps ≡ Some op) × SetsTo op before now

  -- what the phase says of the records
  abbrev pub PhaseMeans : List Op → (start : Records) → Phase → Records → Type 0
  PhaseMeans plan start Fresh now = now ≡ start
  PhaseMeans plan start (Open true (Gets steps op) bodies) now = IsAfter plan start steps now
  PhaseMeans plan start (Open false (Gets steps op) bodies) now = IsAfter plan start steps now ⊎ IsAfter plan start (suc steps) now
  PhaseMeans plan start (Open heeded (Sets steps op back) bodies) now = IsAfter plan start steps now ⊎ IsAfter plan start (suc steps) now
  PhaseMeans plan start (Open heeded (Undoes back rest) bodies) now = IsAfter plan start (length rest) now ⊎ IsAfter plan start (suc (length rest)) now
  PhaseMeans plan start Done now = IsAfter plan start (length plan) now
  PhaseMeans plan start (Halted steps why) now = IsAfter plan start steps now
  PhaseMeans plan start Undone now = now ≡ start
  PhaseMeans plan start (UndoRefused steps code) now = ⊥

  -- Any two Gets of a record, whoever asks them, one of the first board and one of the second, are answered with the same code, and where
  -- that is 00h they show the same configuration (of a long attribute, in its first part).
  abbrev pub ShowsSame : Controller → (first second : State) → Type 0
  ShowsSame controller first second = (key : Key) (one other : Asked) → asked_by one ≡ Ok (Get key) → asked_by other ≡ Ok (Get key)
      → let shown = (controller.answer first one).0 in let again = (controller.answer second other).0 in
      (again.code ≡ shown.code) × (shown.code ≡ success → (limits : Limits) → limits_at setup key ≡ Some limits → conf limits again.body ≡ conf limits shown.body)

  -- Any two requests for the same later part of a long attribute, whoever asks them, one of the first board and one of the second, get the same answer.
  abbrev pub ShowsSameParts : Controller → (first second : State) → Type 0
  ShowsSameParts controller first second = (handle transfer : ℕ) (one other : Asked) → asked_by one ≡ Ok (LaterPart handle transfer)
      → asked_by other ≡ Ok (LaterPart handle transfer) → (controller.answer second other).0 ≡ (controller.answer first one).0

-- how many requests of the manager are open on a bus: one or none
abbrev pub open_on : Bus → Option Asked → ℕ
open_on Ipmb (Some (Ipmi from net_fn lun command body)) = 1
open_on Smbus (Some (Pldm from kind command body)) = 1
open_on on asked = 0

-- how many requests of the manager were begun on a bus: those that were answered, and the open one
abbrev pub begun : Names → Bus → Lab → ℕ
begun names on lab = lab.manager.answered on + open_on on (open_in names lab.manager.phase)

-- The frame of this place was sent, to this end; fewer newer requests than the span were begun on its bus, and its window wasn't forgotten since.
pub record IsDelivered (names : Names) (way : Way) (lab : Lab) (place : ℕ) : Type 0 where
  pub frame : Frame
  pub sent : slice_get lab.frames place ≡ Some frame
  pub meant : frame.way ≡ way
  pub recent : begun names frame.on lab ≤ frame.request + span frame.on
  pub remembered : frame.idles ≡ idles_on names frame.on lab

-- neither the manager nor the controller is known so on the bus
abbrev pub IsAnother : Bus → Names → ℕ → Type 0
IsAnother Ipmb names from = (from ≢ names.own_address) × (from ≢ names.peer_address)
IsAnother Smbus names from = (from ≢ names.own_eid) × (from ≢ names.peer_eid)

-- the bytes are no frame of the bus
abbrev pub IsNoFrame : Bus → List ℕ → Type 0
IsNoFrame Ipmb bytes = (message : Msg) → ¬ IsMessage message bytes
IsNoFrame Smbus bytes = (packet : Packet) → ¬ IsPacket packet bytes

module _ (controller : Controller) (names : Names) where
  -- A packet that isn't the first of its message, and that the port takes, joins others of the request whose first packet came last under
  -- its tag. Fewer than eight requests of the manager that are newer than that request were begun on SMBus.
  abbrev pub JoinsLive : Lab → Value → Type 0
  JoinsLive lab (Part packet) = packet.start ≡ false → packet.envelope.destination ≡ lab.smbus.wire → is_taken lab.smbus.eid packet lab.smbus.waits ≡ true
      → begun names Smbus lab ≤ lab.opened packet.envelope.tag + span Smbus
  JoinsLive lab value = Unit {0}

  -- Frames are delivered as above, and packets join no stale ones. No other requester sends a command that sets records, or has the manager's
  -- or the controller's address. Noise reads as no frame. The manager's window isn't forgotten while a request of it is open.
  abbrev pub IsHonest : Lab → Event → Type 0
  IsHonest lab (Calls call) = Unit {0}
  IsHonest lab (ToBmc place) = (is : IsDelivered names ToPort lab place) × JoinsLive lab is.frame.value
  IsHonest lab (ToMgr place) = IsDelivered names ToManager lab place
  IsHonest lab (OtherIpmb request) = (is_changing (heard_in request).asked ≡ false) × IsAnother Ipmb names request.header.requester.address
  IsHonest lab (OtherSmbus message) =
      ((rest : List ℕ) (request : PldmRequest) → message.body ≡ 1 ∷ rest → IsRequest request rest → is_changing (pldm_heard message.envelope.source_eid request).asked ≡ false)
      × IsAnother Smbus names message.envelope.source_eid
  IsHonest lab (Noise on bytes) = All (λ byte. byte < 256) bytes → IsNoFrame on bytes
  IsHonest lab (Idles on requester) = requester ≡ own_on on names → open_in names lab.manager.phase ≡ None
  IsHonest lab (OnBench activity) = Unit {0}

  -- every event of a schedule is honest, where it happens
  abbrev pub AllHonest : List Event → Lab → Type 0
  AllHonest [] lab = Unit {0}
  AllHonest (event ∷ events) lab = IsHonest lab event × AllHonest events (step controller names lab event)

-- what answers were given
module _ (Given : Asked → Answered → Type 0) (series : Series) where
  -- behind replies with `before` the requests of the series from this one on were each answered with 00h and these data, and then this one is left, or none
  abbrev pub AreGivenBehind : (before : List (List ℕ)) → Option Asked → (bodies : List (List ℕ)) → (left : Option Asked) → Type 0
  AreGivenBehind before asked [] left = asked ≡ left
  AreGivenBehind before (Some asked) (body ∷ bodies) left =
      let with_it = before ++ body ∷ [] in Given asked (record { code = success; body = body }) × AreGivenBehind with_it (next_after series with_it) bodies left
  AreGivenBehind before None (body ∷ bodies) left = ⊥

  -- so it is from the first on
  abbrev pub AreGiven : (bodies : List (List ℕ)) → (left : Option Asked) → Type 0
  AreGiven = AreGivenBehind [] (Some (first_of series))

  -- a request of the series was refused with the code, after those before it
  abbrev pub IsRefused : (code : ℕ) → Type 0
  IsRefused code = (bodies : List (List ℕ)) × (asked : Asked) × (body : List ℕ) × AreGiven bodies (Some asked) × Given asked (record { code = code; body = body }) × (code ≢ success)

module _ (setup : BoardFile) (controller : Controller) (names : Names) (plan : List Op) (retries : ℕ) where
  -- the lab as it begins
  abbrev pub first : Lab
  first = opening controller names plan retries

  -- the lab after events
  abbrev pub after : List Event → Lab
  after events = run controller names events first

  -- At an event of the schedule, where the records were those after so many of the plan's first steps, a port carried out a request of the
  -- manager that asks this, and the board answered it so.
  pub record GaveIn (events : List Event) (steps : ℕ) (asked : Asked) (answered : Answered) : Type 0 where
    pub before : List Event
    pub event : Event
    pub later : List Event
    pub all : events ≡ before ++ event ∷ later
    pub at : IsAfter setup plan first.board.records steps (after before).board.records
    pub bus : Bus
    pub heard : Heard
    pub from_manager : heard.requester ≡ own_on bus names
    pub asks : heard.asked ≡ by_manager names asked
    pub carried : (port_on bus (step controller names (after before) event)).log ≡ Carried heard answered ∷ (port_on bus (after before)).log
    pub gives : controller.answer (after before).board heard.asked ≡ (answered, (step controller names (after before) event).board)

  -- what made a plan halt after so many steps: a call of `stop`, or answers to requests of the step's Get or Set
  abbrev pub IsCause : List Event → ℕ → Why → Type 0
  IsCause events steps Stop = (before : List Event) × (later : List Event) × (events ≡ before ++ Calls Stop ∷ later)
  IsCause events steps (GetRefused code) = (op : Op) × (slice_get plan steps ≡ Some op) × IsRefused (GaveIn events steps) (Reads (key_of op)) code
  IsCause events steps (Refused code) = (op : Op) × (slice_get plan steps ≡ Some op) × IsRefused (GaveIn events steps) (sends op) code
  IsCause events steps NotRestorable = (op : Op) × (bodies : List (List ℕ)) × (slice_get plan steps ≡ Some op)
      × AreGiven (GaveIn events steps) (Reads (key_of op)) bodies None × (¬ restorable op (shown_by (key_of op) bodies))

  -- After every honest schedule, and so at each of its events, the phase says what the records are. Once the plan is undone, and after all
  -- that comes then, every record is what it was, and each Get, also one in parts, is answered with the same code and shows the same configuration.
  -- A plan that halted has its cause in the schedule.
  pub record Claim : Type 0 where
    pub stands : (events : List Event) → AllHonest controller names events first → PhaseMeans setup plan first.board.records (after events).manager.phase (after events).board.records
    pub undone : (events later : List Event) → AllHonest controller names (events ++ later) first → (after events).manager.phase ≡ Undone
        → let now = (after (events ++ later)).board in (now.records ≡ first.board.records) × ShowsSame setup controller first.board now × ShowsSameParts setup controller first.board now
    pub halts : (events : List Event) (steps : ℕ) (why : Why) → AllHonest controller names events first → (after events).manager.phase ≡ Halted steps why → IsCause events steps why
