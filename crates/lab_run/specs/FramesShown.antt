-- The frames of the lab's model that the code's frames are.
use Rattle.std.specs.Prelude.{◌≡◌, ℕ, List}
use Rattle.std.specs.List.{AllZip}
use Rattle.two_wire.specs.declared.Bus.{Bus}
use Rattle.two_wire.specs.declared.Bus.TheVariants.{Ipmb, Smbus}
use Rattle.undo_plans.specs.declared.names.Names.{Names}
use Rattle.lab_run.specs.declared.ages.BusAge.{BusAge}
use Rattle.lab_run.specs.declared.ages.FrameAge.{FrameAge}
use Rattle.bmc_core.specs.Values.{written}
use Rattle.model_lab.specs.ManagerSteps.{board_plans}
use Rattle.model_lab.specs.Lab.{LabFrame, Lab}
use Rattle.lab_run.specs.Marks.{HasMark, IsKnown}
use Rattle.model_lab.specs.declared.way.Way.{Way}
use Rattle.lab_run.specs.declared.frames.SentFrame.{SentFrame}
use Rattle.lab_run.specs.declared.fault.Ages.{Ages}

-- the frame was sent so
pub record IsFrame (sent : SentFrame) (frame : LabFrame) : Type 0 where
  pub way : frame.way ≡ sent.way
  pub mark : HasMark frame sent.mark
  pub bytes : sent.bytes ≡ written frame.value

-- what tells on a bus which frames are too old
abbrev pub marks_on : Bus → Ages → BusAge
marks_on Ipmb marks = marks.ipmb
marks_on Smbus marks = marks.smbus

-- the lab sent these frames, and these marks tell which are too old
pub record ShowsFrames (names : Names) (sent : List SentFrame) (marks : Ages) (lab : Lab (board_plans names)) : Type 0 where
  pub frames : AllZip IsFrame sent lab.frames
  pub known : (on : Bus) → IsKnown (board_plans names) lab on (marks_on on marks)

-- a frame that is sent this way, with this mark
abbrev pub sent_as : Way → FrameAge → List ℕ → SentFrame
sent_as way mark bytes = record { way = way; mark = mark; bytes = bytes }
