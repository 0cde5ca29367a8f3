-- What a manager shows over a list of calls and of bytes that it hears; and that a manager which goes on from a list shows the same.
use Rattle.std.specs.Prelude.{◌≡◌, ℕ, ◌<◌, List, [], ◌∷◌, All, map, Option, Some, None, option_map}
use Rattle.two_wire.specs.declared.Bus.{Bus}
use Rattle.undo_plans.specs.declared.names.Names.{Names}
use Rattle.mctp_net.specs.Assembly.{nothing}
use Rattle.model_undo.specs.declared.phase.Phase.{Phase}
use Rattle.model_undo.specs.Machine.{phase_of}
use Rattle.model_undo.specs.Resume.{list_of, resumed, IsOver}
use Rattle.bmc_core.specs.Values.{Value, written, IsFrameOn}
use Rattle.model_undo.specs.declared.call.Call.{Call}
use Rattle.model_undo.specs.declared.call.Call.TheVariants.{Undo}
use Rattle.model_lab.specs.ManagerSteps.{Sent, ManagerState, ManagerStepResult, board_plans, called, rests, manager_hears}
use Rattle.undo_core.specs.declared.manager.Manager.{Manager}
use Rattle.undo_core.specs.declared.sending.Sent.{Sent as SentFrames}
use Rattle.undo_core.specs.Shown.{words_of, IsStepResult, ForRepresented}

-- what comes to a manager: a call, or bytes over a bus
pub data Input : Type 0 where
  Calls : Call → Input
  Hears : (on : Bus) (bytes : List ℕ) → Input

-- the manager hears bytes alone
abbrev pub HasBytes : Input → Type 0
HasBytes (Calls call) = Unit {0}
HasBytes (Hears on bytes) = All (λ b. b < 256) bytes

-- frames that the manager sends, and their bus
pub record Frames : Type 0 where
  pub on : Bus
  pub frames : List (List ℕ)

-- what a manager shows after an input: its phase, and the frames that it sends
pub record SeenStep : Type 0 where
  pub phase : Phase
  pub sent : Option Frames

module _ (names : Names) where
  -- A manager hears bytes: the value of which they are the frame. Where they are no frame nothing changes, and nothing is sent.
  pub record HearsBytes (on : Bus) (bytes : List ℕ) (state : ManagerState (board_plans names)) (deed : ManagerStepResult (board_plans names)) : Type 0 where
    pub frame : (value : Value) → IsFrameOn on value bytes → deed ≡ manager_hears (board_plans names) value state
    pub none : ((value : Value) → ¬ IsFrameOn on value bytes) → deed ≡ rests (board_plans names) state

  -- a call in a wrong phase changes nothing
  abbrev pub or_rests : Option (ManagerStepResult (board_plans names)) → ManagerState (board_plans names) → ManagerStepResult (board_plans names)
  or_rests None state = rests (board_plans names) state
  or_rests (Some deed) state = deed

  -- the deed of a manager at an input
  abbrev pub IsDeed : Input → ManagerState (board_plans names) → ManagerStepResult (board_plans names) → Type 0
  IsDeed (Calls call) state deed = deed ≡ or_rests (called (board_plans names) call state) state
  IsDeed (Hears on bytes) state deed = HearsBytes on bytes state deed

  -- the manager then shows the deed's manager, and sends the deed's frames
  pub record InputResult (input : Input) (state : ManagerState (board_plans names)) (manager : Manager) (sent : Option SentFrames) : Type 0 where
    pub deed : ManagerStepResult (board_plans names)
    pub is : IsDeed input state deed
    pub does : IsStepResult names manager sent deed

  abbrev pub frames_of : Sent → Frames
  frames_of sent = record { on = sent.on; frames = map written sent.values }

  abbrev pub seen_of : ManagerStepResult (board_plans names) → SeenStep
  seen_of deed = record { phase = phase_of (words_of names) deed.manager.machine; sent = option_map frames_of deed.sent }

  -- the manager shows this at the inputs, one after another
  abbrev pub Course : List Input → ManagerState (board_plans names) → List SeenStep → Type 0
  Course [] state [] = Unit {0}
  Course (input ∷ inputs) state (seen ∷ seens) = (deed : ManagerStepResult (board_plans names)) × IsDeed input state deed × (seen ≡ seen_of deed) × Course inputs deed.manager seens
  Course _ state _ = ⊥

  -- the manager that goes on from the list of another, under its names and with its retries
  abbrev pub resumes : ManagerState (board_plans names) → ManagerState (board_plans names)
  resumes state = record { machine = resumed (words_of names) state.machine.retries (list_of (words_of names) state.machine); names = state.names; listed = state.listed; joined = nothing }

  -- The inputs of a manager determine what it shows. Where a list was taken from a manager whose plan ended or halted, the manager that goes on from
  -- that list shows the same from `undo` on: it is in the same phases, and sends the same frames.
  pub record GoesOnOverFrames : Type 0 where
    pub some : (state : ManagerState (board_plans names)) (inputs : List Input) → All HasBytes inputs → (seen : List SeenStep) × Course inputs state seen
    pub one : (state : ManagerState (board_plans names)) (inputs : List Input) → All HasBytes inputs → (a b : List SeenStep) → Course inputs state a → Course inputs state b → a ≡ b
    pub alike : (state : ManagerState (board_plans names)) → IsOver (words_of names) (phase_of (words_of names) state.machine) → (inputs : List Input) → All HasBytes inputs
        → (seen : List SeenStep) → Course (Calls Undo ∷ inputs) state seen → Course (Calls Undo ∷ inputs) (resumes state) seen

-- whatever machine the manager showed, this comes of the input
abbrev pub InputStep : Input → Manager → Manager → Option SentFrames → Type 0
InputStep input old new sent = ForRepresented old (λ names s. InputResult names input s new sent)
