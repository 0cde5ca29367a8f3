use Rattle.model_lab.specs.Meaning.{lab_names}
use Rattle.app_run.specs.Driven.{resumed_from}
use Rattle.app_run.proofs.undoing.resume.Goals as goal

pub returns-in-Ok-clause-resumed : goal.returns-in-Ok-clause-resumed
returns-in-Ok-clause-resumed c = record {
  shown = c.in-Ok.ensures.resumed;
  phase = c.phase.ensures lab_names (resumed_from c.args.list) c.in-Ok.ensures.resumed;
  steps = c.len-steps.ensures.value;
  greetings = c.before_undo-greetings.ensures;
}
