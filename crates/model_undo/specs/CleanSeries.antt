-- A link without loss where Gets and Sets are series of requests: the board answers each request at once, and the manager takes the reply.
use Rattle.std.specs.Prelude.{◌≡◌, ◌≢◌, ℕ, ◌+◌, ◌≤◌, List, [], ◌∷◌, ◌++◌, length, None, IfSome}
use Rattle.two_wire.specs.Codes.{success}
use Rattle.model_bus.specs.Answered.{Answered}
use Rattle.model_undo.specs.Words.{Words, IsNext, IsSeries}
use Rattle.model_undo.specs.Family.{Family, AllValid, IsReady}
use Rattle.model_undo.specs.declared.phase.Why.{Why}
use Rattle.model_undo.specs.declared.phase.Why.TheVariants.{Stop, Refused, NotRestorable, GetRefused}
use Rattle.model_undo.specs.declared.phase.Phase.{Phase}
use Rattle.model_undo.specs.declared.phase.Phase.TheVariants.{Done, Halted, Undone}
use Rattle.model_undo.specs.Plan.{IsAfter}
use Rattle.model_undo.specs.Undoable.{CanUndo}
use Rattle.model_undo.specs.Machine.{start_of, undo_of, opened}
use Rattle.model_undo.specs.Clean.{Moment, clean, IsAtRest}

-- each series that a manager makes has an end: after so many replies, whatever their data are, no request is next
abbrev pub AreFinite : Words → Type 0
AreFinite words = (series : words.Series) → IsSeries words series → (most : ℕ) × ((bodies : List (List ℕ)) → most ≤ length bodies → words.next series bodies ≡ None)

module _ (family : Family) (answer : family.Board → family.words.Asked → Answered × family.Board) where
  -- after replies with the data `before`, the board answers requests of the series in order, each with 00h and these data, and becomes the other
  abbrev pub SeriesAnswered : family.words.Series → (before bodies : List (List ℕ)) → family.Board → family.Board → Type 0
  SeriesAnswered series before [] board after = after ≡ board
  SeriesAnswered series before (body ∷ bodies) board after =
      (asked : family.words.Asked) × IsNext family.words series before asked × ((answer board asked).0 ≡ record { code = success; body = body })
      × SeriesAnswered series (before ++ body ∷ []) bodies (answer board asked).1 after

  -- it answers all requests of the series so
  pub record AnswersAll (series : family.words.Series) (bodies : List (List ℕ)) (board after : family.Board) : Type 0 where
    pub replied : SeriesAnswered series [] bodies board after
    pub some : bodies ≢ []
    pub no_more : family.words.next series bodies ≡ None

  -- it refuses the last of so many requests of the series with this code, and answered those before it so
  pub record RefusesOne (series : family.words.Series) (code requests : ℕ) (board : family.Board) : Type 0 where
    pub bodies : List (List ℕ)
    pub mid : family.Board
    pub replied : SeriesAnswered series [] bodies board mid
    pub asked : family.words.Asked
    pub is_next : IsNext family.words series bodies asked
    pub refused : (answer mid asked).0.code ≡ code
    pub fault : code ≢ success
    pub counted : requests ≡ length bodies + 1

  -- what the data of all replies to the Get of an operation's record show
  abbrev pub shown : family.words.Op → List (List ℕ) → List ℕ
  shown op bodies = family.words.joined (family.words.getting (family.words.key_of op)) bodies

  -- the board carries a step out by so many requests, and the step can be undone
  pub record CarriesSeries (board : family.Board) (op : family.words.Op) (requests : ℕ) (after : family.Board) : Type 0 where
    pub got : List (List ℕ)
    pub mid : family.Board
    pub read : AnswersAll (family.words.getting (family.words.key_of op)) got board mid
    pub can_undo : family.Restorable op (shown op got)
    pub put : List (List ℕ)
    pub done : AnswersAll (family.words.setting op) put mid after
    pub counted : requests ≡ length got + length put

  -- the board carries all steps out, in order, by so many requests, and becomes the second board; each step can be undone
  abbrev pub GoAll : List family.words.Op → ℕ → family.Board → family.Board → Type 0
  GoAll [] requests board after = (after ≡ board) × (requests ≡ 0)
  GoAll (op ∷ ops) requests board after = (mid : family.Board) × (first : ℕ) × (more : ℕ) × CarriesSeries board op first mid × GoAll ops more mid after × (requests ≡ first + more)

  -- the board reads a step's record by a Get, and refuses its Set
  pub record RefusesSet (board : family.Board) (op : family.words.Op) (code requests : ℕ) : Type 0 where
    pub got : List (List ℕ)
    pub mid : family.Board
    pub read : AnswersAll (family.words.getting (family.words.key_of op)) got board mid
    pub can_undo : family.Restorable op (shown op got)
    pub sets : ℕ
    pub refuses : RefusesOne (family.words.setting op) code sets mid
    pub counted : requests ≡ length got + sets

  -- why the board doesn't carry a step out, and how many requests of the step were sent
  abbrev pub HaltsSeries : family.Board → family.words.Op → Why → ℕ → Type 0
  HaltsSeries board op Stop requests = ⊥
  HaltsSeries board op (GetRefused code) requests = RefusesOne (family.words.getting (family.words.key_of op)) code requests board
  HaltsSeries board op NotRestorable requests =
      (bodies : List (List ℕ)) × (after : family.Board) × AnswersAll (family.words.getting (family.words.key_of op)) bodies board after × (¬ family.Restorable op (shown op bodies)) × (requests ≡ length bodies)
  HaltsSeries board op (Refused code) requests = RefusesSet board op code requests

  -- the phase after `step` steps, where these steps are left: done, or halted at the first of them
  abbrev pub EndsIn : ℕ → List family.words.Op → family.Board → Phase → ℕ → Type 0
  EndsIn step [] board phase requests = (phase ≡ Done) × (requests ≡ 0)
  EndsIn step (op ∷ ops) board phase requests = (why : Why) × HaltsSeries board op why requests × (phase ≡ Halted step why)

  -- the board answers all requests of each series, in order, so many together, and becomes the other
  abbrev pub AnswersEach : List family.words.Series → ℕ → family.Board → family.Board → Type 0
  AnswersEach [] requests board after = (after ≡ board) × (requests ≡ 0)
  AnswersEach (series ∷ more) requests board after =
      (bodies : List (List ℕ)) × (mid : family.Board) × (later : ℕ) × AnswersAll series bodies board mid × AnswersEach more later mid after × (requests ≡ length bodies + later)

  -- A plan that is begun takes as many requests as the Gets and Sets have of the steps that the board carries out. It ends after the last step, or
  -- halts at the first that the board doesn't carry out. Its undo takes as many requests as the series have that undo the steps that were carried
  -- out, and ends with the records of the start.
  pub record RunsThrough (plan : List family.words.Op) (board : family.Board) (begun : Moment family) : Type 0 where
    pub steps : List family.words.Op
    pub rest : List family.words.Op
    pub whole : plan ≡ steps ++ rest
    pub at : family.Board
    pub requests : ℕ
    pub go : GoAll steps requests board at
    pub phase : Phase
    pub more : ℕ
    pub ends : EndsIn (length steps) rest at phase more
    pub run : let ran = clean family answer (requests + more) begun in
        IsAtRest family answer ran phase (requests + more) × IsAfter family plan (family.records board) (length steps) (family.records ran.board)
    pub back : ℕ
    pub undo : let ran = clean family answer (requests + more) begun in
        IfSome (undo_of family.words ran.turn.machine) (λ turn.
        let undone = clean family answer back (record { turn = turn; board = ran.board }) in
        IsAtRest family answer undone Undone (requests + more + back) × (family.records undone.board ≡ family.records board) × AnswersEach ran.turn.machine.undo back ran.board undone.board)
    pub undo_is_taken : let ran = clean family answer (requests + more) begun in undo_of family.words ran.turn.machine ≢ None
    pub undo_each : let ran = clean family answer (requests + more) begun in length ran.turn.machine.undo ≡ length steps
    pub leads_back : let ran = clean family answer (requests + more) begun in CanUndo family plan (family.records board) (length steps) ran.turn.machine.undo (family.records ran.board)

  -- so it is with every plan, at every board of valid records that is ready
  abbrev pub AlwaysRunsThrough : Type 0
  AlwaysRunsThrough = (plan : List family.words.Op) (retries : ℕ) (board : family.Board) → AllValid family (family.records board) → IsReady family board
      → IfSome (start_of family.words (opened family.words plan retries)) (λ turn. RunsThrough plan board (record { turn = turn; board = board }))
