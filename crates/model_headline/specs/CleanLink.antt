-- What comes of a clean schedule: it delivers each frame that is sent once and in order, and nobody else sends a frame.
use Rattle.std.specs.Prelude.{◌≡◌, ℕ, ◌+◌, ◌≤◌, List, [], ◌∷◌, ◌++◌, length, None}
use Rattle.two_wire.specs.declared.Bus.TheVariants.{Ipmb, Smbus}
use Rattle.record_base.specs.declared.op.Op.{Op}
use Rattle.record_base.specs.declared.op.Op.TheVariants as op
use Rattle.cfg_records.specs.declared.board_file.BoardFile.{BoardFile}
use Rattle.record_kinds.specs.Series.{Series}
use Rattle.bmc_board.specs.State.{State}
use Rattle.model_undo.specs.declared.phase.Phase.{Phase}
use Rattle.model_undo.specs.declared.phase.Why.TheVariants.{Refused}
use Rattle.model_undo.specs.declared.phase.Phase.TheVariants.{Halted, Undone}
use Rattle.model_undo.specs.Plan.{IsAfter}
use Rattle.model_undo.specs.Machine.{open_bus}
use Rattle.model_undo.specs.Undoable.{CanUndo}
use Rattle.model_undo.specs.CleanSeries.{GoAll, EndsIn, AnswersEach}
use Rattle.model_lab.specs.Family.{answer}
use Rattle.undo_plans.specs.declared.names.Names.{Names}
use Rattle.undo_plans.specs.Steps.{most_steps}
use Rattle.model_lab.specs.Lab.{Event}
use Rattle.model_lab.specs.Faults.{begun_on, AllTaken}
use Rattle.model_lab.specs.Clean.{IsCleanRun, IsCleanUndo}
use Rattle.model_headline.specs.Tied.{own_plans, own_family}
use Rattle.model_headline.specs.CleanParts.{step_parts, back_parts}
use Rattle.model_headline.specs.Theorem.{first, after, phase_after}

-- the operation's record is got by one request, and set by one
abbrev pub IsOfOne : Op → Type 0
IsOfOne (op.BiosAttribute own) = ⊥
IsOfOne _ = Unit {0}

abbrev pub AreOfOne : List Op → Type 0
AreOfOne [] = Unit {0}
AreOfOne (op ∷ ops) = IsOfOne op × AreOfOne ops

-- how many requests such a step took at which a plan halted
abbrev pub count_at : Phase → ℕ
count_at (Halted step (Refused code)) = 2
count_at (Halted step why) = 1
count_at _ = 0

module _ (setup : BoardFile) (names : Names) (plan : List Op) (retries : ℕ) where
  -- so many requests of the manager were begun, on both buses
  abbrev pub begun_after : List Event → ℕ
  begun_after events = let machine = (after setup names plan retries events).manager.machine in begun_on (own_family setup names).words Ipmb machine + begun_on (own_family setup names).words Smbus machine

  -- the manager is in the phase, so many requests of it were begun, and none is open
  pub record HasEnded (events : List Event) (phase : Phase) (requests : ℕ) : Type 0 where
    pub phase_is : phase_after setup names plan retries events ≡ phase
    pub begun : begun_after events ≡ requests
    pub closed : open_bus (own_family setup names).words (after setup names plan retries events).manager.machine ≡ None

  -- A plan takes as many requests as the Gets and Sets have of its first steps, which the board accepts and which can be undone. It is done after the
  -- last, or halts at the first other step, as soon as a request of the step's Get is refused, all its Get shows can't be restored, or a request of
  -- its Set is refused. Then the records are those after these steps. Its undo takes as many requests as the series have that undo them, one series
  -- for each, and leaves the records of the start.
  pub record RunsOnCleanLink : Type 0 where
    pub steps : List Op
    pub rest : List Op
    pub whole : plan ≡ steps ++ rest
    pub at : State
    pub requests : ℕ
    pub go : GoAll (own_family setup names) (answer setup) steps requests (first setup names plan retries).board at
    pub phase : Phase
    pub more : ℕ
    pub ends : EndsIn (own_family setup names) (answer setup) (length steps) rest at phase more
    -- what the manager keeps, the board after the plan, and the board after the undo, which answers so many requests
    pub undo : List Series
    pub rested : State
    pub leads_back : CanUndo (own_family setup names) plan (first setup names plan retries).board.records (length steps) undo rested.records
    pub back : ℕ
    pub left : State
    pub goes_back : AnswersEach (own_family setup names) (answer setup) undo back rested left
    -- a step takes a request for each part of the entry that it finds, and one for each part of its own; its undo one for each of the entry found
    pub by_parts : (requests ≡ step_parts setup names steps requests (first setup names plan retries).board at go)
        × (back ≡ back_parts setup names plan (first setup names plan retries).board.records (length steps) undo rested.records leads_back)
    -- where each step is of one request for its Get and one for its Set, there are two for each step, and one for each that is undone
    pub of_one : AreOfOne plan → (requests ≡ length steps + length steps) × (more ≡ count_at phase) × (back ≡ length steps)
    -- a clean schedule of a plan of at most `most_steps` exists, and a lab takes each event of any
    pub can_run : length plan ≤ most_steps → (events : List Event) × IsCleanRun (own_plans setup names) setup events (first setup names plan retries)
    pub can_undo : length plan ≤ most_steps → (events : List Event) × IsCleanUndo (own_plans setup names) setup events (first setup names plan retries)
    pub run_taken : length plan ≤ most_steps → (events : List Event) → IsCleanRun (own_plans setup names) setup events (first setup names plan retries) → AllTaken (own_plans setup names) setup events (first setup names plan retries)
    pub undo_taken : length plan ≤ most_steps → (events : List Event) → IsCleanUndo (own_plans setup names) setup events (first setup names plan retries) → AllTaken (own_plans setup names) setup events (first setup names plan retries)
    pub ran : (events : List Event) → IsCleanRun (own_plans setup names) setup events (first setup names plan retries)
        → HasEnded events phase (requests + more)
        × IsAfter (own_family setup names) plan (first setup names plan retries).board.records (length steps) (after setup names plan retries events).board.records
        × ((after setup names plan retries events).manager.machine.undo ≡ undo) × ((after setup names plan retries events).board ≡ rested)
    pub undone : (events : List Event) → IsCleanUndo (own_plans setup names) setup events (first setup names plan retries)
        → HasEnded events Undone (requests + more + back)
        × ((after setup names plan retries events).board.records ≡ (first setup names plan retries).board.records) × ((after setup names plan retries events).board ≡ left)
