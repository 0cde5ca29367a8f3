use Rattle.std.proofs.Common.{subst}
use Rattle.std.proofs.lemmas.Result.{IfOk-weaker}
use Rattle.undo_plans.specs.declared.names.Names.{Names}
use Rattle.model_lab.specs.Meaning.{lab_names as the_names}
use Rattle.bmc_core.specs.PortSteps.{quiet_port}
use Rattle.bmc_core.specs.IpmbShown.{Represents}
use Rattle.lab_run.proofs.lab_state.opened_ipmb.Goals as goal

pub returns : goal.returns
returns c = IfOk-weaker c.new.result _ _ (λ port shows. subst (λ (names : Names). Represents port (quiet_port names.peer_address the_names.peer_eid)) c.lab_names.ensures (shows the_names.peer_eid)) c.new.ensures
