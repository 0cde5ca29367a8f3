-- What a lab's phase says at every moment of an honest schedule in which the manager's process ends, as often as you like, and is made again.
use Rattle.std.specs.Prelude.{◌≡◌, ◌⊎◌, ℕ, List, [], ◌∷◌, ◌++◌}
use Rattle.record_base.specs.declared.message.Asked.{Asked}
use Rattle.record_base.specs.declared.op.Op.{Op}
use Rattle.cfg_records.specs.declared.board_file.BoardFile.{BoardFile}
use Rattle.model_bus.specs.Repeat.{In}
use Rattle.model_bus.specs.Answered.{Answered}
use Rattle.model_undo.specs.declared.phase.Phase.{Phase}
use Rattle.model_undo.specs.declared.phase.Phase.TheVariants.{Undone}
use Rattle.model_undo.specs.Plan.{IsAfter, PhaseMeans}
use Rattle.model_undo.specs.Machine.{phase_of}
use Rattle.model_undo.specs.Headline.{ShowsSame, PartsShowSame}
use Rattle.undo_plans.specs.declared.names.Names.{Names}
use Rattle.model_undo.specs.declared.call.Call.TheVariants.{Stop}
use Rattle.model_lab.specs.ManagerSteps.{remade}
use Rattle.model_lab.specs.Lab.{Event, Calls, Lab, step}
use Rattle.model_lab.specs.Honest.{HasBytes, IsHonest}
use Rattle.model_lab.specs.Own.{IsOwn}
use Rattle.model_headline.specs.Answers.{AnswerGiven, CausedBy}
use Rattle.model_headline.specs.Tied.{own_plans, own_family}
use Rattle.model_headline.specs.Theorem.{first}

-- what can happen
pub data Moment : Type 0 where
  -- an event of the lab
  Happens : (event : Event) → Moment
  -- the manager's process ends, and it is made again of what it wrote down
  Restarts : Moment

module _ (setup : BoardFile) (names : Names) where
  -- the lab after a moment, and after many
  abbrev pub next : Lab (own_plans setup names) → Moment → Lab (own_plans setup names)
  next lab (Happens event) = step (own_plans setup names) setup lab event
  next lab Restarts = record lab { manager = remade (own_plans setup names) lab.manager }

  abbrev pub all_next : List Moment → Lab (own_plans setup names) → Lab (own_plans setup names)
  all_next [] lab = lab
  all_next (moment ∷ moments) lab = all_next moments (next lab moment)

  -- an event is honest, and joins no packet to an assembly that another request's packet opened; a restart may come at any moment
  abbrev pub IsGood : Lab (own_plans setup names) → Moment → Type 0
  IsGood lab (Happens event) = (HasBytes (own_plans setup names) event → IsHonest (own_plans setup names) lab event) × IsOwn (own_plans setup names) lab event
  IsGood lab Restarts = Unit {0}

  abbrev pub AllGood : List Moment → Lab (own_plans setup names) → Type 0
  AllGood [] lab = Unit {0}
  AllGood (moment ∷ moments) lab = IsGood lab moment × AllGood moments (next lab moment)

module _ (setup : BoardFile) (names : Names) (plan : List Op) (retries : ℕ) where
  -- the lab after these moments from its beginning, and the phase of its manager
  abbrev pub after : List Moment → Lab (own_plans setup names)
  after moments = all_next setup names moments (first setup names plan retries)

  abbrev pub phase_after : List Moment → Phase
  phase_after moments = phase_of (own_family setup names).words (after moments).manager.machine

  -- at an event among the moments the board answered the manager so, at the records after so many of the plan's first steps
  pub record GaveIn (moments : List Moment) (place : ℕ) (asked : Asked) (answered : Answered) : Type 0 where
    pub before : List Moment
    pub event : Event
    pub later : List Moment
    pub all : moments ≡ before ++ (Happens event) ∷ later
    pub answers : AnswerGiven setup names (after before) (step (own_plans setup names) setup (after before) event) asked answered
    pub at : IsAfter (own_family setup names) plan (first setup names plan retries).board.records place (after before).board.records

  -- the manager was called to stop, or it was made again
  abbrev pub MakesStop : List Moment → Type 0
  MakesStop moments = In (Happens (Calls Stop)) moments ⊎ In Restarts moments

  pub record StandsOverRestarts : Type 0 where
    -- the phase says what the records are
    pub stands : (moments : List Moment) → AllGood setup names moments (first setup names plan retries)
        → PhaseMeans (own_family setup names) plan (first setup names plan retries).board.records (phase_after moments) (after moments).board.records
    -- once the plan is undone, and after all that comes then, every record is what it was at the start, and each Get shows so
    pub undone : (moments later : List Moment) → AllGood setup names (moments ++ later) (first setup names plan retries) → phase_after moments ≡ Undone
        → let begun = (first setup names plan retries).board in let now = (after (moments ++ later)).board in
        (now.records ≡ begun.records) × ShowsSame (own_family setup names) begun now × PartsShowSame (own_family setup names) begun now
    -- a plan that halted has its cause among the moments: an answer that was given, a call of `stop`, or a restart
    pub halts : (moments : List Moment) → AllGood setup names moments (first setup names plan retries) → CausedBy setup names (GaveIn moments) (MakesStop moments) plan (phase_after moments)
