use Rattle.std.specs.Prelude.{Ok, Err}
use Rattle.std.proofs.Common.{refl}
use Rattle.app_run.specs.Ends.{PrintsNothing}
use Rattle.app_run.proofs.Telling.{says_memory}
use Rattle.app_change.proofs.changing.apply_over.Goals as goal

pub returns-in-Ok-clause-ends : goal.returns-in-Ok-clause-ends
returns-in-Ok-clause-ends g c = (Ok c.in-Ok.applied, c.is_halted-halted.ensures, c.in-Ok.ensures.comes, c.say_applied-status.ensures)

pub returns-clause-ends : goal.returns-clause-ends
returns-clause-ends g c = (
  Err c.in-Err.field-0,
  refl,
  c.in-Err.ensures.comes,
  says_memory g.W.Write.contents g.E.Write.contents PrintsNothing c.args.console.now c.end_run.new.console c.end_run.result c.end_run.ensures,
)
