use Rattle.std.proofs.Common.{sym, ◌∙◌, ap}
use Rattle.model_lab.specs.Played.{Told}
use Rattle.lab_play.proofs.Telling.{shown_by}
use Rattle.lab_play.proofs.played.Played.phase.Goals as goal

pub returns : goal.returns
returns c told tells = c.phase.ensures tells.file tells.now (shown_by c.args.self.now told tells c.deref.result.now c.deref.ensures) ∙ ap (λ (t : Told). t.phase) (sym tells.is)
