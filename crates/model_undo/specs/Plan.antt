-- The records after the steps of a plan, and what a manager's phase says of the records.
use Rattle.std.specs.Prelude.{◌≡◌, ◌≢◌, ℕ, zero, suc, Bool, true, List, length, Some, ◌⊎◌, slice_get}
use Rattle.two_wire.specs.Codes.{success}
use Rattle.model_bus.specs.Answered.{Answered}
use Rattle.model_undo.specs.Words.{IsReached, AllAnswered}
use Rattle.model_undo.specs.Family.{Family, GaveAnswer, SetsTo}
use Rattle.model_undo.specs.declared.phase.Why.{Why}
use Rattle.model_undo.specs.declared.phase.Why.TheVariants.{Stop, Refused, NotRestorable, GetRefused}
use Rattle.model_undo.specs.declared.phase.Phase.{Phase}
use Rattle.model_undo.specs.declared.phase.Phase.TheVariants.{Fresh, Getting, Setting, Done, Halted, Unsettled, Undoing, Undone, UndoRefused}

-- the records are those at the start with the first steps of the plan done, in order; a plan is a list of operations
abbrev pub IsAfter : (family : Family) → List family.words.Op → family.Records → ℕ → family.Records → Type 0
IsAfter family plan start zero records = records ≡ start
IsAfter family plan start (suc step) records =
    (before : family.Records) × (op : family.words.Op) × IsAfter family plan start step before
    × (slice_get plan step ≡ Some op) × SetsTo family op before records

-- what the phase says of the records
abbrev pub PhaseMeans : (family : Family) → List family.words.Op → family.Records → Phase → family.Records → Type 0
PhaseMeans family plan start Fresh records = IsAfter family plan start 0 records
PhaseMeans family plan start (Getting step) records = IsAfter family plan start step records
PhaseMeans family plan start (Setting step) records = IsAfter family plan start step records ⊎ IsAfter family plan start (suc step) records
PhaseMeans family plan start Done records = IsAfter family plan start (length plan) records
PhaseMeans family plan start (Halted step why) records = IsAfter family plan start step records
PhaseMeans family plan start (Unsettled step) records = IsAfter family plan start step records ⊎ IsAfter family plan start (suc step) records
PhaseMeans family plan start (Undoing step) records = IsAfter family plan start (suc step) records ⊎ IsAfter family plan start step records
PhaseMeans family plan start Undone records = IsAfter family plan start 0 records
PhaseMeans family plan start (UndoRefused step code) records = ⊥

-- the board gave this reply to a request of the Get of this step of the plan at these records, having answered those before it there with 00h
pub record GaveGet (family : Family) (plan : List family.words.Op) (place : ℕ) (answered : Answered) (records : family.Records) : Type 0 where
  pub op : family.words.Op
  pub step : slice_get plan place ≡ Some op
  pub bodies : List (List ℕ)
  pub asked : family.words.Asked
  pub reached : IsReached family.words (GaveAnswer family records) (family.words.getting (family.words.key_of op)) bodies asked
  pub gave : GaveAnswer family records asked answered

-- the board gave replies with these data to all requests of the Get of this step of the plan, at these records, and the step can't be undone
-- from what they show together
pub record GaveUnrestorable (family : Family) (plan : List family.words.Op) (place : ℕ) (bodies : List (List ℕ)) (records : family.Records) : Type 0 where
  pub op : family.words.Op
  pub step : slice_get plan place ≡ Some op
  pub gave : AllAnswered family.words (GaveAnswer family records) (family.words.getting (family.words.key_of op)) bodies
  pub not_restorable : ¬ family.Restorable op (family.words.joined (family.words.getting (family.words.key_of op)) bodies)

-- the same of a request of the Set of this step
pub record GaveSet (family : Family) (plan : List family.words.Op) (place : ℕ) (answered : Answered) (records : family.Records) : Type 0 where
  pub op : family.words.Op
  pub step : slice_get plan place ≡ Some op
  pub bodies : List (List ℕ)
  pub asked : family.words.Asked
  pub reached : IsReached family.words (GaveAnswer family records) (family.words.setting op) bodies asked
  pub gave : GaveAnswer family records asked answered

-- why a plan halted after `step` steps, at the records that these steps left; `stopped` says whether the manager was to stop
abbrev pub HaltCause : (family : Family) → Bool → List family.words.Op → ℕ → Why → family.Records → Type 0
HaltCause family stopped plan step Stop records = stopped ≡ true
HaltCause family stopped plan step (Refused code) records =
    (code ≢ success) × (body : List ℕ) × GaveSet family plan step (record { code = code; body = body }) records
HaltCause family stopped plan step (GetRefused code) records =
    (code ≢ success) × (body : List ℕ) × GaveGet family plan step (record { code = code; body = body }) records
HaltCause family stopped plan step NotRestorable records = (bodies : List (List ℕ)) × GaveUnrestorable family plan step bodies records

-- a halted plan has a cause
abbrev pub HaltMeans : (family : Family) → Bool → List family.words.Op → Phase → family.Records → Type 0
HaltMeans family stopped plan (Halted step why) records = HaltCause family stopped plan step why records
HaltMeans family stopped plan _ records = Unit {0}
