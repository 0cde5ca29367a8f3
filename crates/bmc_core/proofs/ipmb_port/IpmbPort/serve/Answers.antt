use Rattle.std.proofs.Common.{rules, ◌≡◌, Option, Some, None, refl, subst}
use Rattle.std.specs.Prelude.{IfSome}
use Rattle.ipmb_frame.specs.declared.message.Request.{Request}
use Rattle.model_bus.specs.Carried.{IsNew}
use Rattle.bmc_core.specs.PortSteps.{PortState}
use Rattle.bmc_core.specs.IpmbShown.{WindowsHold, IsNewRequest, IsHeardAt, outcome_at}
use Rattle.bmc_core.proofs.IpmbServing.{heard_so, refused_so, carried_so}
use Rattle.bmc_core.proofs.ipmb_port.IpmbPort.serve.Goals as goal

pub returns-in_default : goal.returns-in_default
returns-in_default g c =
    let port = c.args.self.now in
    let none : c.heard.result ≡ None = search rules in (
      heard_so port c.args.bytes.now None c.heard.new.out
          (subst (λ (o : Option Request). IsHeardAt port.wire port.windows c.args.bytes.now o c.heard.new.out) none c.heard.ensures.heard),
      refl,
    )

pub returns-in-Ok : goal.returns-in-Ok
returns-in-Ok g c =
    let port = c.args.self.now in
    let r : Request = c.in-Some.request in
    let some : c.heard.result ≡ Some r = search rules in
    carried_so port c.args.bytes.now (g.C.Carrier.carries c.args.carrier.now c.args.kept.now) r c.heard.new.out c.carry_out.new.out c.carry_out.new.windows c.carry_out.new.kept
    (subst (λ (o : Option Request). IsHeardAt port.wire port.windows c.args.bytes.now o c.heard.new.out) some c.heard.ensures.heard)
    (subst (λ (o : Option Request). IfSome o (λ q. IsNewRequest port.windows q)) some c.heard.ensures.fresh)
    (subst (λ (o : Option Request). IfSome o (λ q. (p : PortState) → WindowsHold port.windows p.log → outcome_at p q ≡ IsNew)) some c.heard.ensures.new)
    c.in-Ok.ensures.carried

pub returns-in-Err : goal.returns-in-Err
returns-in-Err g c =
    let port = c.args.self.now in
    let r : Request = c.in-Some.request in
    let some : c.heard.result ≡ Some r = search rules in (
      (
        r,
        refused_so port c.args.bytes.now r c.heard.new.out c.carry_out.new.out c.carry_out.new.windows
            (subst (λ (o : Option Request). IsHeardAt port.wire port.windows c.args.bytes.now o c.heard.new.out) some c.heard.ensures.heard) c.in-Err.ensures.same,
      ),
      c.in-Err.ensures.refused,
    )
