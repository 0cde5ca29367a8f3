-- The answers that the board gave to the manager in a schedule, and a halt that one of them caused.
use Rattle.std.specs.Prelude.{◌≡◌, ◌≢◌, ℕ, List, [], ◌∷◌, ◌++◌, Option, Some, None, Contains, slice_get}
use Rattle.two_wire.specs.Codes.{success}
use Rattle.two_wire.specs.declared.Bus.{Bus}
use Rattle.model_bus.specs.Answered.{Answered}
use Rattle.model_undo.specs.Words.{IsReached, AllAnswered}
use Rattle.model_undo.specs.declared.phase.Why.TheVariants.{Stop, Refused, NotRestorable, GetRefused}
use Rattle.model_undo.specs.declared.phase.Phase.{Phase}
use Rattle.model_undo.specs.declared.phase.Phase.TheVariants.{Halted}
use Rattle.model_undo.specs.Family.{Family}
use Rattle.model_undo.specs.Plan.{IsAfter}
use Rattle.model_undo.specs.Machine.{phase_of}
use Rattle.model_undo.specs.Wires.{Wires}
use Rattle.model_undo.specs.Line.{Exchange, Line}
use Rattle.model_undo.specs.World.{States, World, Happening, OnBus, happens, run, AllMay, opening}
use Rattle.model_undo.specs.Headline.{AnyMakesStop, IsStart}

-- a board answered a request, and became another
pub record GivenAnswer (family : Family) : Type 0 where
  pub before : family.Board
  pub asked : family.words.Asked
  pub answered : Answered
  pub after : family.Board

module _ (family : Family) (lines : Bus → Line) (wires : Wires family.words) where
  -- the answer by which a board became another, if a request of the manager was carried out then
  abbrev pub given_by : Bus → Option Exchange → family.Board → family.Board → List (GivenAnswer family)
  given_by bus None before after = []
  given_by bus (Some exchange) before after = record { before = before; asked = wires.asked_from bus exchange.bytes; answered = wires.answered_from bus exchange.reply; after = after } ∷ []

  -- the answer that the board gives as this happens, if it gives one
  abbrev pub given_at : World family lines → Happening family lines → List (GivenAnswer family)
  given_at world (OnBus bus event after) = given_by bus ((lines bus).carries (world.on bus) event) world.board after
  given_at world _ = []

  -- all answers that the board gave to the manager in a schedule, in order
  abbrev pub given_in : List (Happening family lines) → World family lines → List (GivenAnswer family)
  given_in [] world = []
  given_in (happening ∷ happenings) world = given_at world happening ++ given_in happenings (happens family lines wires world happening)

  -- the board gave this answer to this request by the command relation, at the records after `step` steps
  pub record GaveIn (given : List (GivenAnswer family)) (plan : List family.words.Op) (start : family.Records) (step : ℕ) (asked : family.words.Asked) (answered : Answered) : Type 0 where
    pub before : family.Board
    pub after : family.Board
    pub is_one : Contains given (record { before = before; asked = asked; answered = answered; after = after })
    pub row : family.Row before asked answered after
    pub at : IsAfter family plan start step (family.records before)

  -- the answer that the board gave to a request of the Get of this step of the plan, and to one of its Set, having answered those before it with
  -- 00h, each at the records after the steps before that step
  pub record GaveGetIn (given : List (GivenAnswer family)) (plan : List family.words.Op) (start : family.Records) (place : ℕ) (answered : Answered) : Type 0 where
    pub op : family.words.Op
    pub step : slice_get plan place ≡ Some op
    pub bodies : List (List ℕ)
    pub asked : family.words.Asked
    pub reached : IsReached family.words (GaveIn given plan start place) (family.words.getting (family.words.key_of op)) bodies asked
    pub gave : GaveIn given plan start place asked answered

  pub record GaveSetIn (given : List (GivenAnswer family)) (plan : List family.words.Op) (start : family.Records) (place : ℕ) (answered : Answered) : Type 0 where
    pub op : family.words.Op
    pub step : slice_get plan place ≡ Some op
    pub bodies : List (List ℕ)
    pub asked : family.words.Asked
    pub reached : IsReached family.words (GaveIn given plan start place) (family.words.setting op) bodies asked
    pub gave : GaveIn given plan start place asked answered

  -- the data of the answers that the board gave to all requests of that Get, from which the step can't be undone
  pub record GaveUnrestorableIn (given : List (GivenAnswer family)) (plan : List family.words.Op) (start : family.Records) (place : ℕ) (bodies : List (List ℕ)) : Type 0 where
    pub op : family.words.Op
    pub step : slice_get plan place ≡ Some op
    pub gave : AllAnswered family.words (GaveIn given plan start place) (family.words.getting (family.words.key_of op)) bodies
    pub not_restorable : ¬ family.Restorable op (family.words.joined (family.words.getting (family.words.key_of op)) bodies)

  -- what made a plan halt in a schedule from a world: an answer that the board gave in it, or a stop
  abbrev pub CausedIn : List (Happening family lines) → World family lines → List family.words.Op → family.Records → Phase → Type 0
  CausedIn events world plan start (Halted step Stop) = AnyMakesStop family lines events
  CausedIn events world plan start (Halted step (Refused code)) = (code ≢ success) × (body : List ℕ) × GaveSetIn (given_in events world) plan start step (record { code = code; body = body })
  CausedIn events world plan start (Halted step (GetRefused code)) = (code ≢ success) × (body : List ℕ) × GaveGetIn (given_in events world) plan start step (record { code = code; body = body })
  CausedIn events world plan start (Halted step NotRestorable) = (bodies : List (List ℕ)) × GaveUnrestorableIn (given_in events world) plan start step bodies
  CausedIn events world plan start _ = Unit {0}

  -- a halt has its cause among the answers of its own schedule
  abbrev pub HaltsByAnswers : Type 0
  HaltsByAnswers = (plan : List family.words.Op) (retries : ℕ) (on : States lines) (board : family.Board) → IsStart family lines wires on board
      → (events later : List (Happening family lines)) → AllMay family lines wires (events ++ later) (opening family lines plan retries on board)
      → CausedIn events (opening family lines plan retries on board) plan (family.records board)
      (phase_of family.words (run family lines wires events (opening family lines plan retries on board)).machine)
