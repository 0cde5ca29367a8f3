-- A plan over two buses that lose nothing, and on which nobody else asks: each request and each reply is delivered once.
use Rattle.std.specs.Prelude.{◌≡◌, ℕ, zero, suc, ◌+◌, true, List, [], ◌∷◌, ◌++◌, length, map}
use Rattle.two_wire.specs.declared.Bus.{Bus}
use Rattle.two_wire.specs.declared.Bus.TheVariants.{Ipmb, Smbus}
use Rattle.model_bus.specs.Answered.{Answered}
use Rattle.model_undo.specs.declared.phase.Phase.{Phase}
use Rattle.model_undo.specs.declared.phase.Phase.TheVariants.{Undone}
use Rattle.model_undo.specs.Family.{Family, AllValid}
use Rattle.model_undo.specs.Plan.{IsAfter}
use Rattle.model_undo.specs.Machine.{Part, Stage, Opened, bus_at, sending, phase_of}
use Rattle.model_undo.specs.Wires.{IsMade, Wires}
use Rattle.model_undo.specs.Line.{Line}
use Rattle.model_undo.specs.Joined.{IsClosed}
use Rattle.model_undo.specs.Delivery.{Delivery}
use Rattle.model_undo.specs.declared.call.Call.TheVariants.{Start, Undo}
use Rattle.model_undo.specs.World.{States, World, Happening, Calls, ToManager, OnBus, bytes_sent, happens, run, AllMay, opening}
use Rattle.model_undo.specs.Headline.{IsStart}
use Rattle.model_undo.specs.Clean.{GoAll, EndsIn}
use Rattle.model_undo.specs.CleanSeries as series

module _ (family : Family) (lines : Bus → Line) (deliveries : (bus : Bus) → Delivery (lines bus)) (wires : Wires family.words)
    (answer : family.Board → family.words.Asked → Answered × family.Board) where
  -- these events reach the port one after another, and with the last of them the board becomes the other
  abbrev pub reach_port : (bus : Bus) → List (lines bus).Event → family.Board → family.Board → List (Happening family lines)
  reach_port bus [] board after = []
  reach_port bus (event ∷ []) board after = OnBus bus event after ∷ []
  reach_port bus (event ∷ next ∷ events) board after = OnBus bus event board ∷ reach_port bus (next ∷ events) board after

  -- the open request reaches the port, and the board answers it
  abbrev pub asks : Part family.words → World family lines → List (Happening family lines)
  asks part world =
      let bus = bus_at family.words part in
      let given = answer world.board part.asked in
      reach_port bus ((deliveries bus).to_port (world.on bus) (wires.reply_to bus (bytes_sent family lines wires (sending family.words part world.machine.counts)) given.0))
      world.board given.1

  -- the reply that the port sent reaches the manager
  abbrev pub replies : Bus → World family lines → List (Happening family lines)
  replies bus world = map (λ (event : (lines bus).Event). ToManager bus event) ((deliveries bus).to_manager (world.on bus))

  -- the open request reaches the port, and its reply the manager, if a request is open
  abbrev pub exchange : Stage family.words → World family lines → List (Happening family lines)
  exchange (Opened true task part) world = asks part world ++ replies (bus_at family.words part) (run family lines wires (asks part world) world)
  exchange _ world = []

  -- so many requests and their replies, one after another
  abbrev pub exchanges : ℕ → World family lines → List (Happening family lines)
  exchanges zero world = []
  exchanges (suc count) world = exchange world.machine.stage world ++ exchanges count (run family lines wires (exchange world.machine.stage world) world)

  -- each request that the manager makes, and each answer to it of a board with valid records, can be sent on its bus
  pub record AllCanBeSent : Type 0 where
    pub requests : (number : ℕ) (asked : family.words.Asked) → IsMade family.words asked → (deliveries (family.words.bus_of asked)).CanSend (wires.bytes_of number asked)
    pub answers : (number : ℕ) (asked : family.words.Asked) (board : family.Board) → AllValid family (family.records board) → IsMade family.words asked
        → (deliveries (family.words.bus_of asked)).CanSend (wires.reply_to (family.words.bus_of asked) (wires.bytes_of number asked) (answer board asked).0)

  -- the manager is in the phase, so many requests of it were begun on both buses, and each was answered
  pub record HasEnded (world : World family lines) (phase : Phase) (requests : ℕ) : Type 0 where
    pub phase_is : phase_of family.words world.machine ≡ phase
    pub closed : (bus : Bus) → IsClosed ((lines bus).requests (world.on bus))
    pub count : length ((lines Ipmb).requests (world.on Ipmb)).begun + length ((lines Smbus).requests (world.on Smbus)).begun ≡ requests

  -- A plan that is begun takes as many requests as the Gets and Sets have of the steps that the board carries out. It ends after the last step, or
  -- halts at the first that the board doesn't carry out. Its undo takes as many requests as the series have that undo the steps that were carried
  -- out, and ends with the records of the start. Both schedules are honest.
  pub record RunsThroughBuses (plan : List family.words.Op) (opened : World family lines) : Type 0 where
    pub steps : List family.words.Op
    pub rest : List family.words.Op
    pub whole : plan ≡ steps ++ rest
    pub at : family.Board
    pub requests : ℕ
    pub go : series.GoAll family answer steps requests opened.board at
    pub phase : Phase
    pub more : ℕ
    pub ends : series.EndsIn family answer (length steps) rest at phase more
    pub may_run : AllMay family lines wires (Calls Start ∷ exchanges (requests + more) (happens family lines wires opened (Calls Start))) opened
    pub ran : let world = run family lines wires (Calls Start ∷ exchanges (requests + more) (happens family lines wires opened (Calls Start))) opened in
        HasEnded world phase (requests + more) × IsAfter family plan (family.records opened.board) (length steps) (family.records world.board)
    pub back : ℕ
    pub may_undo : let world = run family lines wires (Calls Start ∷ exchanges (requests + more) (happens family lines wires opened (Calls Start))) opened in
        AllMay family lines wires (Calls Undo ∷ exchanges back (happens family lines wires world (Calls Undo))) world
    pub undone : let world = run family lines wires (Calls Start ∷ exchanges (requests + more) (happens family lines wires opened (Calls Start))) opened in
        let later = run family lines wires (Calls Undo ∷ exchanges back (happens family lines wires world (Calls Undo))) world in
        HasEnded later Undone (requests + more + back) × (family.records later.board ≡ family.records opened.board)
        × series.AnswersEach family answer world.machine.undo back world.board later.board
    pub undo_each : let world = run family lines wires (Calls Start ∷ exchanges (requests + more) (happens family lines wires opened (Calls Start))) opened in
        length world.machine.undo ≡ length steps

  -- so it is with every plan, from a start on both buses where each port has a place for the manager
  abbrev pub AlwaysRunsThroughBuses : Type 0
  AlwaysRunsThroughBuses = AllCanBeSent → (plan : List family.words.Op) (retries : ℕ) (on : States lines) (board : family.Board)
      → IsStart family lines wires on board → ((bus : Bus) → (deliveries bus).HasPlace (on bus))
      → RunsThroughBuses plan (opening family lines plan retries on board)

  -- The same where each Get and each Set is one request. A plan that is begun takes two requests for each step that the board carries out. It ends
  -- after the last step, or halts at the first that the board doesn't carry out. Its undo takes one request for each step that was carried out, and
  -- ends with the records of the start. Both schedules are honest.
  pub record RunsOverBuses (plan : List family.words.Op) (opened : World family lines) : Type 0 where
    pub steps : List family.words.Op
    pub rest : List family.words.Op
    pub whole : plan ≡ steps ++ rest
    pub at : family.Board
    pub go : GoAll family answer steps opened.board at
    pub phase : Phase
    pub more : ℕ
    pub ends : EndsIn family answer (length steps) rest at phase more
    pub may_run : AllMay family lines wires (Calls Start ∷ exchanges (length steps + length steps + more) (happens family lines wires opened (Calls Start))) opened
    pub ran : let world = run family lines wires (Calls Start ∷ exchanges (length steps + length steps + more) (happens family lines wires opened (Calls Start))) opened in
        HasEnded world phase (length steps + length steps + more) × IsAfter family plan (family.records opened.board) (length steps) (family.records world.board)
    pub may_undo : let world = run family lines wires (Calls Start ∷ exchanges (length steps + length steps + more) (happens family lines wires opened (Calls Start))) opened in
        AllMay family lines wires (Calls Undo ∷ exchanges (length steps) (happens family lines wires world (Calls Undo))) world
    pub undone : let world = run family lines wires (Calls Start ∷ exchanges (length steps + length steps + more) (happens family lines wires opened (Calls Start))) opened in
        let later = run family lines wires (Calls Undo ∷ exchanges (length steps) (happens family lines wires world (Calls Undo))) world in
        HasEnded later Undone (length steps + length steps + more + length steps) × (family.records later.board ≡ family.records opened.board)

  -- so it is with every plan, from a start on both buses where each port has a place for the manager
  abbrev pub AlwaysRunsOverBuses : Type 0
  AlwaysRunsOverBuses = AllCanBeSent → (plan : List family.words.Op) (retries : ℕ) (on : States lines) (board : family.Board)
      → IsStart family lines wires on board → ((bus : Bus) → (deliveries bus).HasPlace (on bus))
      → RunsOverBuses plan (opening family lines plan retries on board)
