-- What holds of a plan and its undo at every moment, whatever happens on both buses.
use Rattle.std.specs.Prelude.{◌≡◌, ℕ, List, [], ◌∷◌, ◌++◌, ◌⊎◌}
use Rattle.two_wire.specs.Codes.{success}
use Rattle.two_wire.specs.declared.Bus.{Bus}
use Rattle.model_bus.specs.Answered.{Answered}
use Rattle.model_undo.specs.Words.{AllAnswered}
use Rattle.model_undo.specs.Family.{Family, AllValid, IsReady, GaveAnswer}
use Rattle.model_undo.specs.declared.phase.Why.TheVariants.{Stop}
use Rattle.model_undo.specs.declared.phase.Phase.TheVariants.{Halted, Undone}
use Rattle.model_undo.specs.Plan.{PhaseMeans, HaltMeans}
use Rattle.model_undo.specs.Machine.{phase_of}
use Rattle.model_undo.specs.Wires.{Wires}
use Rattle.model_undo.specs.Line.{Line}
use Rattle.model_undo.specs.declared.call.Call.TheVariants.{Stop as StopCall}
use Rattle.model_undo.specs.World.{States, Happening, Calls, Resume, Restart, run, AllMay, opening}

-- the schedule has a call of `stop`, or another manager goes on, or the manager is made again
abbrev pub MakesStop : (family : Family) (lines : Bus → Line) → Happening family lines → Type 0
MakesStop family lines (Calls StopCall) = Unit {0}
MakesStop family lines (Resume retries) = Unit {0}
MakesStop family lines Restart = Unit {0}
MakesStop family lines _ = ⊥

abbrev pub AnyMakesStop : (family : Family) (lines : Bus → Line) → List (Happening family lines) → Type 0
AnyMakesStop family lines [] = ⊥
AnyMakesStop family lines (happening ∷ happenings) = MakesStop family lines happening ⊎ AnyMakesStop family lines happenings

-- any two Gets of a record, whoever asks them, one at the first board and one at the second, are both answered with 00h and show the same
-- configuration, or are both refused with the same code
abbrev pub ShowsSame : (family : Family) → family.Board → family.Board → Type 0
ShowsSame family board after = (key : family.words.Key) (one other : family.words.Asked) → family.IsGet one key → family.IsGet other key
    → (shown again : Answered) (left other_left : family.Board)
    → family.Row board one shown left → family.Row after other again other_left
    → (again.code ≡ shown.code) × (shown.code ≡ success → family.conf key again.body ≡ family.conf key shown.body)

-- any two Gets of the manager for a record, the requests of one answered at the records of the first board, each with 00h, and those of the other at
-- the records of the second, show the same configuration
abbrev pub PartsShowSame : (family : Family) → family.Board → family.Board → Type 0
PartsShowSame family board after = (key : family.words.Key) (shown again : List (List ℕ)) → let get = family.words.getting key in
    AllAnswered family.words (GaveAnswer family (family.records board)) get shown → AllAnswered family.words (GaveAnswer family (family.records after)) get again
    → family.conf key (family.words.joined get again) ≡ family.conf key (family.words.joined get shown)

-- from a board that is ready and whose records are valid, and a start on both buses, so long as each thing may happen where it does
module _ (family : Family) (lines : Bus → Line) (wires : Wires family.words) where
  pub record IsStart (on : States lines) (board : family.Board) : Type 0 where
    pub on_bus : (bus : Bus) → (lines bus).IsStart (on bus)
    pub valid : AllValid family (family.records board)
    pub ready : IsReady family board

  -- at every moment the phase stands on the records, and a halt has its cause
  abbrev pub AlwaysStands : Type 0
  AlwaysStands = (plan : List family.words.Op) (retries : ℕ) (on : States lines) (board : family.Board) → IsStart on board
      → (events later : List (Happening family lines)) → AllMay family lines wires (events ++ later) (opening family lines plan retries on board)
      → let world = run family lines wires events (opening family lines plan retries on board) in
      PhaseMeans family plan (family.records board) (phase_of family.words world.machine) (family.records world.board)
      × HaltMeans family world.machine.stopped plan (phase_of family.words world.machine) (family.records world.board)

  -- once a plan is undone, and at every moment from then on, all records are what they were at the start, and each Get, whoever
  -- asks it, is answered with the same code and shows the same configuration as at the start, and so does each of several requests
  abbrev pub UndoneForGood : Type 0
  UndoneForGood = (plan : List family.words.Op) (retries : ℕ) (on : States lines) (board : family.Board) → IsStart on board
      → (events later : List (Happening family lines)) → AllMay family lines wires (events ++ later) (opening family lines plan retries on board)
      → phase_of family.words (run family lines wires events (opening family lines plan retries on board)).machine ≡ Undone
      → let world = run family lines wires (events ++ later) (opening family lines plan retries on board) in
      (family.records world.board ≡ family.records board) × ShowsSame family board world.board × PartsShowSame family board world.board

  -- a plan halts with the reason `Stop` only where it was made to
  abbrev pub StopsOnlyIfTold : Type 0
  StopsOnlyIfTold = (plan : List family.words.Op) (retries step : ℕ) (on : States lines) (board : family.Board) → IsStart on board
      → (events : List (Happening family lines)) → AllMay family lines wires events (opening family lines plan retries on board)
      → phase_of family.words (run family lines wires events (opening family lines plan retries on board)).machine ≡ Halted step Stop → AnyMakesStop family lines events
