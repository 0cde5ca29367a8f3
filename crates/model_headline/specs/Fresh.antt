-- The headline over a controller that did anything before, also for the manager, so long as the manager's windows are fresh: it was
-- never heard, or was forgotten since, or greeted the controller on both buses.
use Rattle.std.specs.Prelude.{◌≡◌, ◌≢◌, ℕ, ◌/◌, List, ◌∷◌, ◌++◌}
use Rattle.record_base.specs.declared.message.Asked.{Asked}
use Rattle.record_base.specs.declared.op.Op.{Op}
use Rattle.cfg_records.specs.declared.board_file.BoardFile.{BoardFile}
use Rattle.bmc_board.specs.State.{State}
use Rattle.two_wire.specs.declared.Bus.{Bus}
use Rattle.two_wire.specs.declared.Bus.TheVariants.{Ipmb, Smbus}
use Rattle.model_bus.specs.Request.{Entry}
use Rattle.model_bus.specs.Start.{FreshWindow}
use Rattle.model_bus.specs.Circle.{circle_of}
use Rattle.model_bus.specs.Carried.{IsBusy, outcome, Heard, HeardRequest}
use Rattle.model_bus.specs.Greeting.{greeting, log_with_all, AllAside}
use Rattle.model_bus.specs.Repeat.{In}
use Rattle.model_bus.specs.Answered.{Answered}
use Rattle.model_undo.specs.declared.call.Call.TheVariants.{Stop}
use Rattle.model_undo.specs.declared.phase.Phase.TheVariants.{Undone}
use Rattle.model_undo.specs.Family.{AllValid, IsReady}
use Rattle.model_undo.specs.Plan.{IsAfter, PhaseMeans}
use Rattle.model_undo.specs.Machine.{phase_of}
use Rattle.model_undo.specs.Headline.{ShowsSame, PartsShowSame}
use Rattle.undo_plans.specs.declared.names.Names.{Names}
use Rattle.model_lab.specs.Lab.{Event, Calls, Lab, step, run}
use Rattle.model_lab.specs.Honest.{AllHonest}
use Rattle.model_lab.specs.Joins.{AllJoinLive}
use Rattle.model_headline.specs.Each.{Each}
use Rattle.model_headline.specs.Tied.{own_plans, own_family, rules_on, EntryAnswers}
use Rattle.model_headline.specs.Answers.{AnswerGiven, CausedBy}
use Rattle.model_headline.specs.Theorem.{first}

module _ (setup : BoardFile) (names : Names) (plan : List Op) (retries : ℕ) where
  -- a lab as it begins over a controller with this board, whose ports did this before; no packet waits at it
  abbrev pub first_over : State → (ipmb_log smbus_log : List Entry) → Lab (own_plans setup names)
  first_over board ipmb_log smbus_log =
      let fresh = first setup names plan retries in record fresh { board = board; ipmb = record fresh.ipmb { log = ipmb_log }; smbus = record fresh.smbus { log = smbus_log } }

  -- the manager's windows are fresh, each reply that is kept answers its request, and the board is one that the file describes
  pub record IsFreshStart (board : State) (ipmb_log smbus_log : List Entry) : Type 0 where
    pub ipmb_fresh : FreshWindow (rules_on setup names Ipmb) ipmb_log
    pub smbus_fresh : FreshWindow (rules_on setup names Smbus) smbus_log
    pub ipmb_answers : Each (EntryAnswers setup names Ipmb) ipmb_log
    pub smbus_answers : Each (EntryAnswers setup names Smbus) smbus_log
    pub valid : AllValid (own_family setup names) board.records
    pub ready : IsReady (own_family setup names) board

  -- each event is honest, and no packet joins one that waited too long
  abbrev pub IsTrustedFrom : Lab (own_plans setup names) → List Event → Type 0
  IsTrustedFrom start events = AllHonest (own_plans setup names) setup events start × AllJoinLive (own_plans setup names) setup events start

  -- at an event of the schedule the board answered the manager so, at the records after so many of the plan's first steps
  pub record GaveFrom (start : Lab (own_plans setup names)) (events : List Event) (place : ℕ) (asked : Asked) (answered : Answered) : Type 0 where
    pub before : List Event
    pub event : Event
    pub later : List Event
    pub all : events ≡ before ++ event ∷ later
    pub answers : AnswerGiven setup names (run (own_plans setup names) setup before start) (step (own_plans setup names) setup (run (own_plans setup names) setup before start) event) asked answered
    pub at : IsAfter (own_family setup names) plan start.board.records place (run (own_plans setup names) setup before start).board.records

  -- the phase says what the records are, a plan that halted has its cause in its own schedule, and once the plan is undone, all is for good as it was at this start
  pub record StandsFrom (start : Lab (own_plans setup names)) : Type 0 where
    pub stands : (events : List Event) → IsTrustedFrom start events
        → let now = run (own_plans setup names) setup events start in
        PhaseMeans (own_family setup names) plan start.board.records (phase_of (own_family setup names).words now.manager.machine) now.board.records
    pub halts : (events : List Event) → IsTrustedFrom start events
        → CausedBy setup names (GaveFrom start events) (In (Calls Stop) events) plan (phase_of (own_family setup names).words (run (own_plans setup names) setup events start).manager.machine)
    pub undone : (events later : List Event) → IsTrustedFrom start (events ++ later)
        → phase_of (own_family setup names).words (run (own_plans setup names) setup events start).manager.machine ≡ Undone
        → let now = (run (own_plans setup names) setup (events ++ later) start).board in
        (now.records ≡ start.board.records) × ShowsSame (own_family setup names) start.board now × PartsShowSame (own_family setup names) start.board now

  abbrev pub FreshStartsStand : Type 0
  FreshStartsStand = (board : State) (ipmb_log smbus_log : List Entry) → IsFreshStart board ipmb_log smbus_log → StandsFrom (first_over board ipmb_log smbus_log)

  -- The port of the bus did anything; then it heard the manager's one greeting and wasn't busy; then it heard whatever others ask, and
  -- of the manager nothing but numbers from the greeting's up to right before the first.
  pub record IsGreeted (bus : Bus) (log : List Entry) : Type 0 where
    pub before : List Entry
    pub bytes : List ℕ
    pub answer : List ℕ
    pub later : List Heard
    pub heard : outcome (rules_on setup names bus).is_above (greeting (rules_on setup names bus) (circle_of bus / 2) bytes answer).request before ≢ IsBusy
    pub aside : AllAside (rules_on setup names bus) later
    pub all : log ≡ log_with_all (rules_on setup names bus).is_above (HeardRequest (greeting (rules_on setup names bus) (circle_of bus / 2) bytes answer) ∷ later) before

  abbrev pub GreetedIsFresh : Type 0
  GreetedIsFresh = (bus : Bus) (log : List Entry) → IsGreeted bus log → FreshWindow (rules_on setup names bus) log
