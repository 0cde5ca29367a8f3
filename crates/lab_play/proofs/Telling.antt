-- The lab that a play tells of.
use Rattle.std.proofs.Common.{◌≡◌, sym, subst}
use Rattle.model_lab.specs.Played.{Told}
use Rattle.lab_run.specs.declared.lab_state.Lab.{Lab}
use Rattle.lab_run.specs.Shown.{Represents}
use Rattle.lab_play.specs.declared.played.Played.{Played}
use Rattle.lab_play.specs.Ends.{TellsPlay}

-- what was read out of its memory shows what is told
pub shown_by : (played : Played) (told : Told) (tells : TellsPlay played told) (lab : Lab) → lab ≡ played.lab.value → Represents tells.file lab tells.now
shown_by played told tells lab is = subst (λ (l : Lab). Represents tells.file l tells.now) (sym is) tells.shown
