use Rattle.std.proofs.Common.{sym, subst}
use Rattle.std.specs.List.{AllZip}
use Rattle.model_lab.specs.Played.{Told}
use Rattle.lab_run.specs.Shown.{IsSentFrame}
use Rattle.lab_play.proofs.Telling.{shown_by}
use Rattle.lab_play.proofs.played.Played.frames.Goals as goal

pub returns : goal.returns
returns c told tells = subst (λ (t : Told). AllZip IsSentFrame c.frames.result.now t.frames) (sym tells.is) (c.frames.ensures tells.file tells.now (shown_by c.args.self.now told tells c.deref.result.now c.deref.ensures))
