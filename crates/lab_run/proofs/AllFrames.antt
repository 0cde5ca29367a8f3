-- The frames that were sent.
use Rattle.std.proofs.Common.{List, [], ◌∷◌}
use Rattle.std.specs.List.{AllZip}
use Rattle.model_lab.specs.Lab.{LabFrame}
use Rattle.lab_run.specs.declared.frames.SentFrame.{SentFrame}
use Rattle.lab_run.specs.FramesShown.{IsFrame}
use Rattle.lab_run.specs.Shown.{IsSentFrame}

-- each was sent so
pub all_frames : (sent : List SentFrame) (frames : List LabFrame) → AllZip IsSentFrame sent frames → AllZip IsFrame sent frames
all_frames [] [] all = tt
all_frames [] (f ∷ frames) all = absurd all
all_frames (s ∷ sent) [] all = absurd all
all_frames (s ∷ sent) (f ∷ frames) all = (all.0.is, all_frames sent frames all.1)
