use Rattle.std.specs.Prelude.{Ok}
use Rattle.std.proofs.Common.{ap}
use Rattle.app_apply.specs.declared.applying.Applied.{Applied}
use Rattle.app_apply.proofs.Begun.{applied_is}
use Rattle.app_apply.proofs.applying.begin_ready.Goals as goal

pub returns-in-Ok-clause-begins : goal.returns-in-Ok-clause-begins
returns-in-Ok-clause-begins g c = record {
  manager = c.begin.new.ready.manager;
  outcome = Ok c.in-Ok.outcome;
  begins = c.in-Ok.ensures.begins;
  comes = ap (λ (applied : Applied). Ok applied)
      (applied_is c.applied_as.result c.begin.new.ready.manager c.in-Ok.outcome c.args.guarded.aside c.applied_as.ensures.manager c.applied_as.ensures.outcome c.applied_as.ensures.aside);
}
