-- What each call and each frame makes of a looker, and what it sends.
use Rattle.std.specs.Prelude.{◌≡◌, ◌⊎◌, ℕ, ◌+◌, Bool, true, false, nat_lt, ◌&&◌, List, [], Option, Some, None, Result, Ok, Err, if◌then◌else◌}
use Rattle.two_wire.specs.declared.Bus.{Bus}
use Rattle.two_wire.specs.declared.Bus.TheVariants.{Ipmb, Smbus}
use Rattle.ipmb_frame.specs.declared.message.Response.{Response}
use Rattle.ipmb_frame.specs.Grammar.{IsResponse}
use Rattle.mctp_net.specs.declared.packet.Packet.{Packet}
use Rattle.mctp_net.specs.declared.message.Message.{Message}
use Rattle.mctp_net.specs.Grammar.{IsPacket}
use Rattle.mctp_net.specs.Assembly.{Assemblies, MakesWhole, after as joined_after, nothing}
use Rattle.mctp_net.specs.Places.{seen}
use Rattle.record_base.specs.declared.message.Asked.{Asked}
use Rattle.undo_plans.specs.declared.names.Names.{Names}
use Rattle.undo_plans.specs.declared.undo_list.NextNumbers.{NextNumbers}
use Rattle.model_bus.specs.Answered.{Answered}
use Rattle.model_bus.specs.Bytes.{is_busy_code}
use Rattle.undo_look.specs.declared.hearing.Reply.{Reply}
use Rattle.undo_look.specs.declared.looker.Looker.{Looker}
use Rattle.undo_look.specs.declared.looker.Seen.{Seen}
use Rattle.undo_look.specs.declared.looker.Seen.TheVariants as seen_as
use Rattle.undo_look.specs.declared.looker.WrongPhase.{WrongPhase}
use Rattle.undo_look.specs.declared.stage.Stage.{Stage}
use Rattle.undo_look.specs.declared.stage.Stage.TheVariants.{AtStart, Opened, Found, Refused}
use Rattle.undo_look.specs.declared.target.Target.{Target}
use Rattle.undo_look.specs.Targets.{first_asked}
use Rattle.undo_look.specs.Requests.{IsLookFrame, bus_of, get_at, is_answer_to, is_from_controller, is_part, numbers_after, reply_of}
use Rattle.undo_look.specs.Replies.{shown_behind, stage_behind}

-- what a looker is
pub record LookState : Type 0 where
  pub names : Names
  pub retries : ℕ
  -- the number of the open request on its bus, and those of the next ones
  pub next : NextNumbers
  pub stage : Stage
  -- how often the open request was sent again, since it was begun or heeded again
  pub resent : ℕ
  -- the packets that wait
  pub joined : Assemblies
  -- the data that the replies show so far
  pub shown : List ℕ

abbrev pub state_of : Looker → LookState
state_of looker = record {
  names = looker.names;
  retries = looker.retries;
  next = looker.next;
  stage = looker.stage;
  resent = looker.resent;
  joined = seen looker.joined;
  shown = looker.shown;
}

-- a looker of which nothing was sent
abbrev pub opened_at : Names → NextNumbers → (retries : ℕ) → LookState
opened_at names next retries = record { names = names; retries = retries; next = next; stage = AtStart; resent = 0; joined = nothing; shown = [] }

-- ---- the stages

-- a request is open, also one that isn't heeded
abbrev pub is_open : Stage → Bool
is_open (Opened heeded target parts asked) = true
is_open _ = false

abbrev pub open_on : Stage → Option Bus
open_on (Opened heeded target parts asked) = Some (bus_of asked)
open_on _ = None

-- the open request, where it is heeded
abbrev pub heeded_in : Stage → Option Asked
heeded_in (Opened true target parts asked) = Some asked
heeded_in _ = None

-- an answer is awaited on this bus
abbrev pub awaited_on : Stage → Option Bus
awaited_on (Opened true target parts asked) = Some (bus_of asked)
awaited_on _ = None

-- what the last look came to, unless its request is open
abbrev pub IsSeen : Stage → (shown : List ℕ) → Option Seen → Type 0
IsSeen (Found target) shown (Some (seen_as.Shown bytes)) = bytes.now ≡ shown
IsSeen (Refused target code) shown (Some (seen_as.Refused told)) = told ≡ code
IsSeen AtStart shown None = Unit {0}
IsSeen (Opened heeded target parts asked) shown None = Unit {0}
IsSeen _ shown _ = ⊥

-- ---- what a call does

-- a looker after a call or a frame, and whether it sends its open request then
pub record StepResult : Type 0 where
  pub state : LookState
  pub sends : Bool

-- nothing is sent
abbrev pub rests : LookState → StepResult
rests s = record { state = s; sends = false }

-- the open request is sent
abbrev pub asks : LookState → StepResult
asks s = record { state = s; sends = true }

-- the looker is at this stage from now on, and sends the request that is open there
abbrev pub enters : LookState → Stage → StepResult
enters s stage = record { state = record s { stage = stage; resent = 0 }; sends = is_open stage }

-- the frame is that of the open request, which is one of its look
abbrev pub IsOpenFrame : Names → NextNumbers → Stage → (frame : List ℕ) → Type 0
IsOpenFrame names next (Opened heeded target parts asked) frame = (get_at target parts ≡ Some asked) × IsLookFrame names next asked frame
IsOpenFrame names next _ frame = ⊥

-- it sends that frame, or nothing
abbrev pub IsSent : LookState → Option (List ℕ) → (sends : Bool) → Type 0
IsSent s (Some frame) true = IsOpenFrame s.names s.next s.stage frame
IsSent s None false = Unit {0}
IsSent s _ _ = ⊥

-- the looker is then the step's, and sends what the step sends
abbrev pub IsStepResult : Looker → Option (List ℕ) → StepResult → Type 0
IsStepResult looker frame step = (state_of looker ≡ step.state) × IsSent step.state frame step.sends

-- a call has the effect of the step; where there is no step, the call is refused and changes nothing
abbrev pub IsCalled : (old new : Looker) → Result (Option (List ℕ)) WrongPhase → Option StepResult → Type 0
IsCalled old new (Ok frame) (Some step) = IsStepResult new frame step
IsCalled old new (Err wrong) None = new ≡ old
IsCalled old new _ _ = ⊥

-- ---- the calls: none where the stage isn't one for the call

-- the numbers, where the open request of this bus is given up
abbrev pub skipped : NextNumbers → Option Bus → NextNumbers
skipped next None = next
skipped next (Some bus) = numbers_after next bus

-- the first request is sent, unless an answer is awaited
abbrev pub begin_at : LookState → Target → Stage → Option StepResult
begin_at s target (Opened true other parts asked) = None
begin_at s target stage =
    Some (enters (record s { next = skipped s.next (open_on stage); joined = nothing; shown = [] }) (Opened true target 0 (first_asked target)))

-- no answer came: the request is sent again, or isn't heeded where that was done as often as it may be
abbrev pub sends_again : LookState → Target → (parts : ℕ) → Asked → StepResult
sends_again s target parts asked =
    if nat_lt s.resent s.retries
    then asks (record s { resent = s.resent + 1 })
    else rests (record s { stage = Opened false target parts asked })

abbrev pub quiet_at : LookState → Stage → Option StepResult
quiet_at s (Opened true target parts asked) = Some (sends_again s target parts asked)
quiet_at s _ = None

-- the request that wasn't heeded is heeded again, and sent
abbrev pub again_at : LookState → Stage → Option StepResult
again_at s (Opened false target parts asked) = Some (enters s (Opened true target parts asked))
again_at s _ = None

-- ---- what a reply to the open request does

-- the reply is taken, and its number is over
abbrev pub goes_on : LookState → Target → (parts : ℕ) → Bus → Answered → StepResult
goes_on s target parts bus answered =
    enters (record s { next = numbers_after s.next bus; shown = shown_behind target parts s.shown answered }) (stage_behind target parts answered)

-- the codes of a busy controller count as no reply
abbrev pub takes_at : LookState → Answered → Stage → StepResult
takes_at s answered (Opened true target parts asked) = if is_busy_code answered.code then rests s else goes_on s target parts (bus_of asked) answered
takes_at s answered _ = rests s

-- ---- what is heard

abbrev pub answered_in : Reply → Answered
answered_in reply = record { code = reply.code; body = reply.body.now }

abbrev pub answered_by : Response → Answered
answered_by response = record { code = response.code; body = response.body }

-- a response answers the open request
abbrev pub is_awaited : Names → NextNumbers → Response → Option Asked → Bool
is_awaited names next response (Some asked) = is_from_controller names response && is_answer_to asked next.ipmb response
is_awaited names next response None = false

-- a response is taken where it does
abbrev pub hears_response : LookState → Response → StepResult
hears_response s response =
    if is_awaited s.names s.next response (heeded_in s.stage) then takes_at s (answered_by response) s.stage else rests s

-- what a message says that is the reply to the open request, if it is one
abbrev pub awaited_reply : NextNumbers → (message : List ℕ) → Option Asked → Option Answered
awaited_reply next message (Some asked) = reply_of asked next.smbus message
awaited_reply next message None = None

abbrev pub takes_told : LookState → Option Answered → StepResult
takes_told s (Some answered) = takes_at s answered s.stage
takes_told s None = rests s

-- a whole message is taken where it is the reply to the open request
abbrev pub hears_message : LookState → (message : List ℕ) → StepResult
hears_message s message = takes_told s (awaited_reply s.next message (heeded_in s.stage))

abbrev pub is_smbus : Option Bus → Bool
is_smbus (Some Smbus) = true
is_smbus _ = false

-- an answer is awaited on SMBus, and the packet is a part of one
abbrev pub is_awaited_part : LookState → Packet → Bool
is_awaited_part s packet = is_smbus (awaited_on s.stage) && is_part s.names s.next.smbus packet

-- the packet joined those that waited
abbrev pub joins : LookState → Packet → LookState
joins s packet = record s { joined = joined_after s.names.own_eid s.joined packet }

-- it makes no message whole
abbrev pub MakesNone : LookState → Packet → Type 0
MakesNone s packet = (message : Message) → MakesWhole s.names.own_eid s.joined packet message → ⊥

-- a packet of an answer joins those that wait, and may make a message whole; any other is nothing
abbrev pub HearsPacket : Packet → (old new : Looker) → Option (List ℕ) → Type 0
HearsPacket packet old new frame =
    let s = state_of old in
    ((is_awaited_part s packet ≡ false) × IsStepResult new frame (rests s))
    ⊎ ((is_awaited_part s packet ≡ true) × (
    ((message : Message) × MakesWhole s.names.own_eid s.joined packet message × IsStepResult new frame (hears_message (joins s packet) message.body))
    ⊎ (MakesNone s packet × IsStepResult new frame (rests (joins s packet)))))

-- of all bytes one thing comes: of a frame what comes of its value, and of others nothing
abbrev pub HearsFrame : Bus → (bytes : List ℕ) → (old new : Looker) → Option (List ℕ) → Type 0
HearsFrame Ipmb bytes old new frame =
    ((response : Response) × IsResponse response bytes × IsStepResult new frame (hears_response (state_of old) response))
    ⊎ (((response : Response) → IsResponse response bytes → ⊥) × IsStepResult new frame (rests (state_of old)))
HearsFrame Smbus bytes old new frame =
    ((packet : Packet) × IsPacket packet bytes × HearsPacket packet old new frame)
    ⊎ (((packet : Packet) → IsPacket packet bytes → ⊥) × IsStepResult new frame (rests (state_of old)))
