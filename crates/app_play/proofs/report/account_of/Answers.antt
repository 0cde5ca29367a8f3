use Rattle.std.proofs.Common.{◌∙◌, ap}
use Rattle.model_lab.specs.Played.{Told}
use Rattle.app_play.proofs.report.account_of.Goals as goal

pub returns-clause-told : goal.returns-clause-told
returns-clause-told c told tells = record {
  phase = c.phase.ensures told tells;
  frames = c.frames.ensures told tells;
  undo = c.undo.ensures told tells;
  changed = record {
    start = c.args.played.now.start.items;
    once = tells.once;
    began = ap (λ (t : Told). t.start) tells.is ∙ tells.start;
    counted = c.changed.ensures told tells;
  };
}
