-- What tells how old a frame of a lab is, and which window may be forgotten.
use Rattle.std.specs.Prelude.{◌≡◌, ℕ, ◌+◌, Bool, length, Option, Some, None, if◌then◌else◌, slice_get}
use Rattle.two_wire.specs.declared.Bus.{Bus}
use Rattle.cfg_records.specs.declared.board_file.BoardFile.{BoardFile}
use Rattle.model_undo.specs.Machine.{open_bus}
use Rattle.undo_plans.specs.declared.names.Names.{Names}
use Rattle.lab_run.specs.declared.ages.FrameAge.{FrameAge}
use Rattle.lab_run.specs.declared.ages.BusAge.{BusAge}
use Rattle.model_lab.specs.ManagerSteps.{Plans, board_plans}
use Rattle.model_lab.specs.Lab.{LabFrame, ToBmc, Idles, Lab, idles_on, step}
use Rattle.model_lab.specs.declared.fault.Fault.TheVariants.{StillOpen}
use Rattle.model_lab.specs.Faults.{begun_on, is_live, fault_of}

-- the frame has the mark
pub record HasMark (frame : LabFrame) (mark : FrameAge) : Type 0 where
  pub on : frame.on ≡ mark.on
  pub request : frame.request ≡ mark.request
  pub idles : frame.idles ≡ mark.idles

-- the mark, with so many times that the manager's window was forgotten
abbrev pub with_idles : FrameAge → ℕ → FrameAge
with_idles mark idles = record { on = mark.on; request = mark.request; idles = idles }

module _ (plans : Plans) where
  -- the manager began so many requests on the bus, and the port there forgot the manager's window so often
  pub record IsKnown (lab : Lab plans) (on : Bus) (known : BusAge) : Type 0 where
    pub begun : begun_on plans.words on lab.manager.machine ≡ known.begun
    pub idles : idles_on plans on lab ≡ known.idles

  -- the test says whether a frame with the mark is live
  abbrev pub TellsLive : FrameAge → BusAge → Bool → Type 0
  TellsLive mark known live = (lab : Lab plans) (frame : LabFrame) → HasMark frame mark → IsKnown lab mark.on known → is_live plans lab frame ≡ live

  -- each frame that the port sends when a frame with the mark comes has this mark, where the manager's window was forgotten so often by then
  abbrev pub MarksReplies : BoardFile → FrameAge → ℕ → FrameAge → Type 0
  MarksReplies setup delivered idles mark = (lab : Lab plans) (number : ℕ) (frame : LabFrame) → slice_get lab.frames number ≡ Some frame → HasMark frame delivered
      → idles_on plans frame.on (step plans setup lab (ToBmc number)) ≡ idles
      → (place : ℕ) (reply : LabFrame) → slice_get (step plans setup lab (ToBmc number)).frames (length lab.frames + place) ≡ Some reply → HasMark reply mark

  -- the test says whether the lab refuses to forget a requester's window, where a request is open on this bus or on none
  abbrev pub TellsOpen : Names → Bus → ℕ → Option Bus → Bool → Type 0
  TellsOpen names on requester where_open refused = (lab : Lab plans) → lab.manager.names ≡ names → open_bus plans.words lab.manager.machine ≡ where_open
      → fault_of plans lab (Idles on requester) ≡ (if refused then Some StillOpen else None)

-- so each frame has this mark that the port sends in labs of all names, on boards of all files
abbrev pub MarksAllReplies : FrameAge → ℕ → FrameAge → Type 0
MarksAllReplies delivered idles mark = (names : Names) (setup : BoardFile) → MarksReplies (board_plans names) setup delivered idles mark
