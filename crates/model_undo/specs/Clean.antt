-- A link without loss, and no bus: the board answers each request at once, and the manager takes the reply.
use Rattle.std.specs.Prelude.{◌≡◌, ◌≢◌, ℕ, zero, suc, ◌+◌, List, [], ◌∷◌, ◌++◌, length, Option, Some, None, IfSome}
use Rattle.two_wire.specs.Codes.{success}
use Rattle.model_bus.specs.Answered.{Answered}
use Rattle.model_undo.specs.Words.{get_asked, set_asked}
use Rattle.model_undo.specs.Family.{Family, AllValid, IsReady}
use Rattle.model_undo.specs.declared.phase.Why.{Why}
use Rattle.model_undo.specs.declared.phase.Why.TheVariants.{Stop, Refused, NotRestorable, GetRefused}
use Rattle.model_undo.specs.declared.phase.Phase.{Phase}
use Rattle.model_undo.specs.declared.phase.Phase.TheVariants.{Done, Halted, Undone}
use Rattle.model_undo.specs.Plan.{IsAfter}
use Rattle.model_undo.specs.Machine.{Counts, Sending, Turn, phase_of, start_of, undo_of, reply_of, opened}

-- a manager with the request that it has just sent, and the board
pub record Moment (family : Family) : Type 0 where
  pub turn : Turn family.words
  pub board : family.Board

-- how many requests were answered, on both buses
abbrev pub answered_in_all : Counts → ℕ
answered_in_all counts = counts.ipmb + counts.smbus

module _ (family : Family) (answer : family.Board → family.words.Asked → Answered × family.Board) where
  -- the board answers each request by the command relation
  abbrev pub AnswersByRow : Type 0
  AnswersByRow = (board : family.Board) (asked : family.words.Asked) → family.Row board asked (answer board asked).0 (answer board asked).1

  abbrev pub after_turn : Option (Turn family.words) → family.Board → Moment family → Moment family
  after_turn None board moment = record moment { board = board }
  after_turn (Some turn) board moment = record { turn = turn; board = board }

  abbrev pub exchanged : Option (Sending family.words) → Moment family → Moment family
  exchanged None moment = moment
  exchanged (Some sending) moment =
      after_turn (reply_of family.words (answer moment.board sending.asked).0 moment.turn.machine) (answer moment.board sending.asked).1 moment

  -- the board answers the request, and the manager takes the reply, if a request was sent
  abbrev pub one : Moment family → Moment family
  one moment = exchanged moment.turn.sends moment

  -- so many requests are answered, one after another
  abbrev pub clean : ℕ → Moment family → Moment family
  clean zero moment = moment
  clean (suc count) moment = clean count (one moment)

  -- the board's answer to the Get of an operation's record, and to its Set after that
  abbrev pub got : family.Board → family.words.Op → Answered × family.Board
  got board op = answer board (get_asked family.words (family.words.key_of op))

  abbrev pub did : family.Board → family.words.Op → Answered × family.Board
  did board op = answer (got board op).1 (set_asked family.words op)

  -- the board carries a step out, and the step can be undone
  pub record CarriesStep (board : family.Board) (op : family.words.Op) (after : family.Board) : Type 0 where
    pub read : (got board op).0.code ≡ success
    pub can_undo : family.Restorable op (got board op).0.body
    pub done : (did board op).0.code ≡ success
    pub left : after ≡ (did board op).1

  -- the board carries all steps out, in order, and becomes the second board; each step can be undone
  abbrev pub GoAll : List family.words.Op → family.Board → family.Board → Type 0
  GoAll [] board after = after ≡ board
  GoAll (op ∷ ops) board after = (mid : family.Board) × CarriesStep board op mid × GoAll ops mid after

  -- why the board doesn't carry a step out so, and how many requests of the step were sent
  abbrev pub HaltsStep : family.Board → family.words.Op → Why → ℕ → Type 0
  HaltsStep board op Stop count = ⊥
  HaltsStep board op (GetRefused code) count = ((got board op).0.code ≡ code) × (code ≢ success) × (count ≡ 1)
  HaltsStep board op NotRestorable count = ((got board op).0.code ≡ success) × (¬ family.Restorable op (got board op).0.body) × (count ≡ 1)
  HaltsStep board op (Refused code) count =
      ((got board op).0.code ≡ success) × family.Restorable op (got board op).0.body × ((did board op).0.code ≡ code) × (code ≢ success) × (count ≡ 2)

  -- the phase after `step` steps, where these steps are left: done, or halted at the first of them
  abbrev pub EndsIn : ℕ → List family.words.Op → family.Board → Phase → ℕ → Type 0
  EndsIn step [] board phase count = (phase ≡ Done) × (count ≡ 0)
  EndsIn step (op ∷ ops) board phase count = (why : Why) × HaltsStep board op why count × (phase ≡ Halted step why)

  -- the manager sends no more requests, and so many were answered
  pub record IsAtRest (moment : Moment family) (phase : Phase) (requests : ℕ) : Type 0 where
    pub rests : moment.turn.sends ≡ None
    pub phase_is : phase_of family.words moment.turn.machine ≡ phase
    pub count : answered_in_all moment.turn.machine.counts ≡ requests

  -- A plan that is begun takes two requests for each step that the board carries out. It ends after the last step, or halts at the first that the
  -- board doesn't carry out. Its undo takes one request for each step that was carried out, and ends with the records of the start.
  pub record RunsClean (plan : List family.words.Op) (board : family.Board) (begun : Moment family) : Type 0 where
    pub steps : List family.words.Op
    pub rest : List family.words.Op
    pub whole : plan ≡ steps ++ rest
    pub at : family.Board
    pub go : GoAll steps board at
    pub phase : Phase
    pub more : ℕ
    pub ends : EndsIn (length steps) rest at phase more
    pub run : let ran = clean (length steps + length steps + more) begun in
        IsAtRest ran phase (length steps + length steps + more) × IsAfter family plan (family.records board) (length steps) (family.records ran.board)
    pub undo : let ran = clean (length steps + length steps + more) begun in
        IfSome (undo_of family.words ran.turn.machine) (λ turn.
        let undone = clean (length steps) (record { turn = turn; board = ran.board }) in
        IsAtRest undone Undone (length steps + length steps + more + length steps) × (family.records undone.board ≡ family.records board))
    pub undo_is_taken : let ran = clean (length steps + length steps + more) begun in undo_of family.words ran.turn.machine ≢ None

  -- so it is with every plan, at every board of valid records
  abbrev pub AlwaysRunsClean : Type 0
  AlwaysRunsClean = (plan : List family.words.Op) (retries : ℕ) (board : family.Board) → AllValid family (family.records board) → IsReady family board
      → IfSome (start_of family.words (opened family.words plan retries)) (λ turn. RunsClean plan board (record { turn = turn; board = board }))
