use Rattle.std.proofs.Common.{List, sym, subst}
use Rattle.std.specs.List.{AllZip}
use Rattle.lab_run.specs.declared.frames.SentFrame.{SentFrame}
use Rattle.lab_run.specs.Shown.{IsSentFrame}
use Rattle.lab_run.proofs.lab_state.Lab.frames.Goals as goal

pub returns : goal.returns
returns c file x shows = subst (λ (sent : List SentFrame). AllZip IsSentFrame sent x.frames) (sym c.as_slice.ensures) shows.frames
