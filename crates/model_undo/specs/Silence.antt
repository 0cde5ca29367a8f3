-- A restart is a stop and a silence: the manager that is made again is the one that was told to stop, and then heard nothing.
use Rattle.std.specs.Prelude.{◌≡◌, ℕ, suc, List, ◌∷◌, replicate}
use Rattle.two_wire.specs.declared.Bus.{Bus}
use Rattle.model_undo.specs.declared.call.Call.TheVariants as manager_call
use Rattle.model_undo.specs.declared.phase.Phase.{Phase}
use Rattle.model_undo.specs.declared.phase.Phase.TheVariants.{Getting, Setting, Unsettled, Undoing}
use Rattle.model_undo.specs.Words.{Words}
use Rattle.model_undo.specs.Machine.{Machine, phase_of}
use Rattle.model_undo.specs.Resume.{Input, Called}
use Rattle.model_undo.specs.Unsettled.{run as after_calls}
use Rattle.model_undo.specs.Restart.{restarted}
use Rattle.model_undo.specs.Family.{Family}
use Rattle.model_undo.specs.Wires.{Wires}
use Rattle.model_undo.specs.Line.{Line}
use Rattle.model_undo.specs.World.{States, Happening, run, opening}

module _ (words : Words) where
  -- `quiet`, as often as a request may be sent again, and once more; past the one that leaves it unsettled the others do nothing
  abbrev pub silence : Machine words → List Input
  silence machine = replicate (suc machine.retries) (Called manager_call.Quiet)

  -- What a restart is, by the phase: of a plan a stop and a silence, of an undo a silence. A request that was unsettled already is as one that was
  -- heeded again first.
  abbrev pub IsSilence : Machine words → Phase → Type 0
  IsSilence machine (Getting step) = restarted words machine ≡ after_calls words ((Called manager_call.Stop) ∷ silence machine) machine
  IsSilence machine (Setting step) = restarted words machine ≡ after_calls words ((Called manager_call.Stop) ∷ silence machine) machine
  IsSilence machine (Undoing step) = restarted words machine ≡ after_calls words (silence machine) machine
  IsSilence machine (Unsettled step) =
      restarted words machine ≡ after_calls words ((Called manager_call.Again) ∷ (Called manager_call.Stop) ∷ silence machine) machine
  IsSilence machine _ = restarted words machine ≡ machine

-- so it is at every moment of every schedule
abbrev pub RestartsAreSilences : (family : Family) (lines : Bus → Line) → Wires family.words → Type 0
RestartsAreSilences family lines wires = (plan : List family.words.Op) (retries : ℕ) (on : States lines) (board : family.Board)
    → (events : List (Happening family lines)) → let machine = (run family lines wires events (opening family lines plan retries on board)).machine in
    IsSilence family.words machine (phase_of family.words machine)
