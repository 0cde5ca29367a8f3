-- What a lab's phase says at every moment of an honest schedule.
use Rattle.std.specs.Prelude.{◌≡◌, ℕ, List, ◌∷◌, ◌++◌}
use Rattle.record_base.specs.declared.message.Asked.{Asked}
use Rattle.record_base.specs.declared.op.Op.{Op}
use Rattle.cfg_records.specs.declared.board_file.BoardFile.{BoardFile}
use Rattle.model_bus.specs.Repeat.{In}
use Rattle.model_bus.specs.Answered.{Answered}
use Rattle.model_undo.specs.declared.phase.Phase.{Phase}
use Rattle.model_undo.specs.declared.phase.Phase.TheVariants.{Undone}
use Rattle.model_undo.specs.Plan.{IsAfter, PhaseMeans}
use Rattle.model_undo.specs.Machine.{phase_of}
use Rattle.model_undo.specs.Headline.{ShowsSame, PartsShowSame}
use Rattle.undo_plans.specs.declared.names.Names.{Names}
use Rattle.model_undo.specs.declared.call.Call.TheVariants.{Stop}
use Rattle.model_lab.specs.Lab.{Event, Calls, Lab, step, run, opening}
use Rattle.model_lab.specs.Faults.{AllTaken}
use Rattle.model_lab.specs.Honest.{AllHonest}
use Rattle.model_lab.specs.Own.{AllOwn}
use Rattle.model_lab.specs.Joins.{AllJoinLive}
use Rattle.model_headline.specs.Answers.{AnswerGiven, CausedBy}
use Rattle.model_headline.specs.Tied.{own_plans, own_family}

module _ (setup : BoardFile) (names : Names) (plan : List Op) (retries : ℕ) where
  -- the lab as it begins: a board that has heard nothing, and a manager with the plan
  abbrev pub first : Lab (own_plans setup names)
  first = opening (own_plans setup names) setup names plan retries

  -- the lab after events
  abbrev pub after : List Event → Lab (own_plans setup names)
  after events = run (own_plans setup names) setup events first

  -- the phase of the lab's manager after events
  abbrev pub phase_after : List Event → Phase
  phase_after events = phase_of (own_family setup names).words (after events).manager.machine

  -- Each event is honest, and no packet that the lab delivers to the port joins one that has waited there while eight or more newer
  -- requests of the manager were begun on SMBus.
  abbrev pub IsTrusted : List Event → Type 0
  IsTrusted events = AllHonest (own_plans setup names) setup events first × AllJoinLive (own_plans setup names) setup events first

  -- each event is honest, and no packet that the lab delivers to the port joins an assembly that another request's packet opened
  abbrev pub IsHonestAndOwn : List Event → Type 0
  IsHonestAndOwn events = AllHonest (own_plans setup names) setup events first × AllOwn (own_plans setup names) setup events first

  -- the lab takes each event, and so
  abbrev pub IsTakenAndOwn : List Event → Type 0
  IsTakenAndOwn events = AllTaken (own_plans setup names) setup events first × AllOwn (own_plans setup names) setup events first

  -- the phase says what the records are
  abbrev pub StandsAfter : List Event → Type 0
  StandsAfter events = PhaseMeans (own_family setup names) plan first.board.records (phase_after events) (after events).board.records

  -- at an event of the schedule the board answered the manager so, at the records after so many of the plan's first steps
  pub record GaveIn (events : List Event) (place : ℕ) (asked : Asked) (answered : Answered) : Type 0 where
    pub before : List Event
    pub event : Event
    pub later : List Event
    pub all : events ≡ before ++ event ∷ later
    pub answers : AnswerGiven setup names (after before) (step (own_plans setup names) setup (after before) event) asked answered
    pub at : IsAfter (own_family setup names) plan first.board.records place (after before).board.records

  -- what holds of every schedule that keeps the premises
  module _ (Good : List Event → Type 0) where
    -- so it is after each such schedule, and at each of its events, since each beginning of the schedule is such a schedule too
    abbrev pub AlwaysStands : Type 0
    AlwaysStands = (events : List Event) → Good events → StandsAfter events

    -- Once the plan is undone, and after all that comes then, every record is what it was at the start. Each Get, whoever asks it, is
    -- answered with the same code and shows the same configuration. So does a Get of the manager in several requests, each answered with 00h.
    abbrev pub UndoneForGood : Type 0
    UndoneForGood = (events later : List Event) → Good (events ++ later) → phase_after events ≡ Undone
        → let now = (after (events ++ later)).board in
        (now.records ≡ first.board.records) × ShowsSame (own_family setup names) first.board now × PartsShowSame (own_family setup names) first.board now

    -- a plan that halted has its cause in its own schedule: an answer that was given in it, or a call of `stop`
    abbrev pub HaltsByAnswers : Type 0
    HaltsByAnswers = (events : List Event) → Good events → CausedBy setup names (GaveIn events) (In (Calls Stop) events) plan (phase_after events)

    pub record Headline : Type 0 where
      pub stands : AlwaysStands
      pub undone : UndoneForGood
      pub halts : HaltsByAnswers

  -- How the premises hang together. Where each event is honest, no packet joins a packet that has waited so long exactly where no packet joins an
  -- assembly that another request's packet opened. Each event that a lab takes is honest.
  pub record PremisesAgree : Type 0 where
    pub own : (events : List Event) → IsTrusted events → AllOwn (own_plans setup names) setup events first
    pub live : (events : List Event) → IsHonestAndOwn events → AllJoinLive (own_plans setup names) setup events first
    pub honest : (events : List Event) → AllTaken (own_plans setup names) setup events first → AllHonest (own_plans setup names) setup events first
