-- The requests of a greeting: every board refuses each for its length and stays what it was, no plan makes one like it, and behind them the
-- manager's window is fresh.
use Rattle.std.specs.Prelude.{◌≡◌, ◌≢◌, ℕ, ◌+◌, ◌-◌, ◌%◌, List, ◌∷◌, length, drop, slice_index, false, Some, ◌⊎◌}
use Rattle.two_wire.specs.Circles.{instances}
use Rattle.two_wire.specs.Codes.{invalid_length, pldm_invalid_length}
use Rattle.two_wire.specs.declared.Bus.{Bus}
use Rattle.two_wire.specs.declared.Bus.TheVariants.{Ipmb, Smbus}
use Rattle.pldm_base.specs.declared.message.PldmRequest.{PldmRequest}
use Rattle.pldm_base.specs.Message.{request_in as pldm_request_in}
use Rattle.record_base.specs.declared.key.Key.{Key}
use Rattle.record_base.specs.declared.op.Op.{Op}
use Rattle.record_base.specs.declared.message.Asked.{Asked}
use Rattle.record_base.specs.declared.message.Asked.TheVariants.{Ipmi, Pldm}
use Rattle.cfg_records.specs.declared.board_file.BoardFile.{BoardFile}
use Rattle.record_kinds.specs.Series.{Series, Reads, sends, first_of, next_after}
use Rattle.bmc_board.specs.State.{State}
use Rattle.bmc_board.specs.Answer.{AnswerAndState, answer_of}
use Rattle.bmc_board.specs.Replies.{refused}
use Rattle.bmc_board.specs.Decode.{sent_by}
use Rattle.bmc_board.specs.Table.{is_changing}
use Rattle.model_bus.specs.Request.{Request as Heard, Kept, Entry}
use Rattle.model_bus.specs.Numbering.{Rules, ipmb, smbus}
use Rattle.model_bus.specs.Carried.{IsBusy, outcome, Heard as Happening, HeardRequest, log_with}
use Rattle.model_bus.specs.Greeting.{HearsNot, log_with_all}
use Rattle.model_bus.specs.Start.{FreshWindow}
use Rattle.bmc_core.specs.Values.{Value, Asks, Part, IsFrameOn}
use Rattle.bmc_core.specs.Wires.{bytes_of}
use Rattle.bmc_core.specs.Bytes.{heard_in, pldm_heard_in}
use Rattle.bmc_core.specs.PortSteps.{PortState, hears}
use Rattle.undo_plans.specs.declared.names.Names.{Names}
use Rattle.undo_plans.specs.GreetingPlaces.{greeting_places}
use Rattle.undo_plans.specs.GreetingRequests.{application, get_device_id, messaging_control, get_tid, greeting_data, request_at, message_at, packet_at, IsGreetingFrame}

-- what a greeting's request on this bus asks of a board, from this requester
abbrev pub greeting_asked : Bus → (from : ℕ) → Asked
greeting_asked Ipmb from = Ipmi from application 0 get_device_id greeting_data
greeting_asked Smbus from = Pldm from messaging_control get_tid greeting_data

-- the request that the greeting's message of this count is
abbrev pub pldm_request_at : (count : ℕ) → PldmRequest
pldm_request_at count = record { header = record { instance = count % instances; pldm_type = messaging_control; command = get_tid }; body = greeting_data }

-- the code that refuses data of a length that the command doesn't take
abbrev pub length_code : Bus → ℕ
length_code Ipmb = invalid_length
length_code Smbus = pldm_invalid_length

-- the greeting's request of this count, as it goes over the bus
abbrev pub greeting_value : Names → Bus → (count : ℕ) → Value
greeting_value names Ipmb count = Asks (request_at names count)
greeting_value names Smbus count = Part (packet_at names count)

-- the board refuses for its length, and stays what it was
abbrev pub refused_for_length : Bus → State → AnswerAndState
refused_for_length on before = (refused (length_code on), before)

pub record GreetingsSetNothing : Type 0 where
  -- every board answers so, whoever sends it
  pub refused : (setup : BoardFile) (before : State) (on : Bus) (from : ℕ)
      → answer_of setup before (greeting_asked on from) ≡ refused_for_length on before
  -- its command sets no configuration, whatever its data are
  pub quiet : (on : Bus) (from : ℕ) → is_changing (greeting_asked on from) ≡ false
  -- its frame is that of the value
  pub frame : (names : Names) (on : Bus) (count : ℕ) (bytes : List ℕ)
      → IsGreetingFrame names on count bytes → IsFrameOn on (greeting_value names on count) bytes
  -- the message in its packet is read as that request
  pub read : (count : ℕ) → pldm_request_in (drop 1 (message_at count)) ≡ Some (pldm_request_at count)
  -- whatever the port did before, and whatever waits at it, it leaves the board what it was
  pub left : (setup : BoardFile) (port : PortState) (before : State) (names : Names) (on : Bus) (count : ℕ)
      → (hears setup port before (greeting_value names on count)).board ≡ before

-- ---- what a plan makes

-- a plan, an undo list or the undo of one makes the series: it gets a record, or carries an operation out, also one that undoes another
abbrev pub IsOfPlan : Series → Type 0
IsOfPlan series = ((key : Key) × (series ≡ Reads key)) ⊎ ((op : Op) × (series ≡ sends op))

-- the request is one of the series: its first, or the next after replies with these data
abbrev pub IsOneOf : Series → Asked → Type 0
IsOneOf series asked = (asked ≡ first_of series) ⊎ ((bodies : List (List ℕ)) × (next_after series bodies ≡ Some asked))

-- A request that a manager makes to get a record, to carry an operation out or to take one back has never the bytes of a greeting's, whoever
-- the manager is and under whatever numbers. So a port never takes the one for a copy of the other.
abbrev pub NoPlanGreets : Type 0
NoPlanGreets = (series : Series) (asked : Asked) → IsOfPlan series → IsOneOf series asked
    → (manager : ℕ) (on : Bus) (number other from : ℕ) → bytes_of number (sent_by manager asked) ≢ bytes_of other (greeting_asked on from)

-- ---- what it makes of the manager's window

-- what a port hears of the greeting's request of this count: who asks, under which number, and the bytes
abbrev pub greeting_heard : Names → Bus → (count : ℕ) → Heard
greeting_heard names Ipmb count = heard_in (request_at names count)
greeting_heard names Smbus count = pldm_heard_in names.own_eid (pldm_request_at count)

-- the bus's rules for a manager whose requests go on with this number
abbrev pub rules_from : Names → Bus → (next : ℕ) → Rules
rules_from names Ipmb next = ipmb names.own_address names.peer_address next
rules_from names Smbus next = smbus names.own_eid names.peer_eid next

-- the first and the last place of the greeting's requests
abbrev pub first_place : Bus → ℕ
first_place on = slice_index (greeting_places on) 0

abbrev pub last_place : Bus → ℕ
last_place on = slice_index (greeting_places on) (length (greeting_places on) - 1)

-- the port hears it, and would answer so
abbrev pub kept_at : Names → Bus → (count : ℕ) → (answer : List ℕ) → Kept
kept_at names on count answer = record { request = greeting_heard names on count; reply = answer }

-- A port that did anything before hears the greeting's first request and isn't busy, then anything but its last one, then that, and isn't busy
-- again. Then the manager's window is fresh, whatever the number is with which its requests go on.
abbrev pub GreeterFreshens : Type 0
GreeterFreshens = (names : Names) (on : Bus) (next : ℕ) (before : List Entry) (between : List Happening) (answer reply : List ℕ)
    → let rules = rules_from names on next in
    let first = kept_at names on (next + first_place on) answer in
    let last = kept_at names on (next + last_place on) reply in
    outcome rules.is_above first.request before ≢ IsBusy
    → HearsNot last.request between
    → outcome rules.is_above last.request (log_with_all rules.is_above (HeardRequest first ∷ between) before) ≢ IsBusy
    → FreshWindow rules (log_with rules.is_above (HeardRequest last) (log_with_all rules.is_above (HeardRequest first ∷ between) before))
