use Rattle.std.proofs.lemmas.Result.{IfOk-weaker}
use Rattle.std.proofs.Common.{IfOk, subst}
use Rattle.bmc_ports.specs.declared.agenda.Agenda.{Agenda}
use Rattle.bmc_ports.specs.Lending.{AreBack}
use Rattle.bmc_ports.proofs.Agendas.{is_once, only_one}
use Rattle.bmc_ports.proofs.runner.run_slices.Goals as goal

pub returns-clause-back : goal.returns-clause-back
returns-clause-back g c =
    subst (λ (agenda : Agenda). IfOk c.run_agenda.result (λ run. AreBack g.A.Link g.B.Link c.args.seats c.args.lanes agenda run))
    (is_once c.once.result c.args.table c.once.ensures.table c.once.ensures.repeats) c.run_agenda.ensures.back

pub returns-clause-done : goal.returns-clause-done
returns-clause-done g c = IfOk-weaker c.run_agenda.result _ _ (λ run done. only_one done) c.run_agenda.ensures.done
