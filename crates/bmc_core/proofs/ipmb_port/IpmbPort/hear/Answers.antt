use Rattle.std.proofs.Common.{Option, refl, sym, subst}
use Rattle.ipmb_frame.specs.declared.message.Request.{Request}
use Rattle.bmc_core.specs.declared.step.Step.TheVariants as step
use Rattle.bmc_core.specs.IpmbHeard.{IsHeard}
use Rattle.bmc_core.specs.IpmbShown.{AskingStep, step_of}
use Rattle.bmc_core.proofs.ipmb_port.IpmbPort.hear.Goals as goal

pub returns-in-Some : goal.returns-in-Some
returns-in-Some c = record {
  steps = λ p shows heard is.
      subst (λ (q : Request). AskingStep p heard (step.Ask q) c.heard.new.out) (sym c.pending.ensures)
      (subst (λ (o : Option Request). AskingStep p heard (step_of o) c.heard.new.out) c.in-Some.is
      (c.heard.ensures.heard p shows.log heard (subst (λ w. IsHeard w c.args.bytes.now heard) (sym shows.wire) is)));
  stays = refl;
}

pub returns-in-None : goal.returns-in-None
returns-in-None c = record {
  steps = λ p shows heard is.
      subst (λ (o : Option Request). AskingStep p heard (step_of o) c.heard.new.out) c.in-None.is
      (c.heard.ensures.heard p shows.log heard (subst (λ w. IsHeard w c.args.bytes.now heard) (sym shows.wire) is));
  stays = refl;
}
