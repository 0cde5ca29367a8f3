use Rattle.std.proofs.Common.{◌≡◌, Bool, true, false, Result, refl, sym, ◌∙◌, subst}
use Rattle.ipmb_frame.specs.declared.message.Request.{Request}
use Rattle.bmc_core.specs.declared.out.Reason.{Reason}
use Rattle.bmc_core.specs.declared.step.Step.TheVariants as step
use Rattle.bmc_core.specs.IpmbShown.{IsSettled, AskingStep, outcome_at}
use Rattle.bmc_core.proofs.IpmbHearing.{one_heard}
use Rattle.bmc_core.proofs.ipmb_port.heard.Goals as goal

pub returns-in-Err-clause-heard : goal.returns-in-Err-clause-heard
returns-in-Err-clause-heard c p of heard is =
    let same : c.read.result ≡ heard = one_heard c.args.wire c.args.bytes.now c.read.result heard c.read.ensures is in
    subst (λ (h : Result Request Reason). AskingStep p h step.Done c.ignore.new.self) (sym c.in-Err.is ∙ same) (refl, c.ignore.ensures)

pub returns-then-settle-clause-heard : goal.returns-then-settle-clause-heard
returns-then-settle-clause-heard c p of heard is =
    let same : c.read.result ≡ heard = one_heard c.args.wire c.args.bytes.now c.read.result heard c.read.ensures is in
    let r : Request = c.in-Ok.request in
    subst (λ (h : Result Request Reason). AskingStep p h step.Done c.settle.new.out) (sym c.in-Ok.is ∙ same)
    (true, subst (λ (b : Bool). IsSettled r (outcome_at p r) c.settle.new.out b) c.if-settle.true (c.settle.ensures.settles p of), refl)

pub returns-clause-heard : goal.returns-clause-heard
returns-clause-heard c p of heard is =
    let same : c.read.result ≡ heard = one_heard c.args.wire c.args.bytes.now c.read.result heard c.read.ensures is in
    let r : Request = c.in-Ok.request in
    subst (λ (h : Result Request Reason). AskingStep p h (step.Ask r) c.settle.new.out) (sym c.in-Ok.is ∙ same)
    (false, subst (λ (b : Bool). IsSettled r (outcome_at p r) c.settle.new.out b) c.if-settle.false (c.settle.ensures.settles p of), refl)
