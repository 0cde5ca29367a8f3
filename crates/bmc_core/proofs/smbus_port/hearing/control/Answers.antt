use Rattle.std.proofs.Common.{ℕ, List, subst}
use Rattle.mctp_net.specs.Control.{request_of as control_request_of}
use Rattle.bmc_core.proofs.SmbusPorts.{IsSent, replied}
use Rattle.bmc_core.proofs.smbus_port.hearing.control.Goals as goal

pub returns-in-Some : goal.returns-in-Some
returns-in-Some c =
    let wire = c.args.wire in
    let e = c.args.envelope in
    replied wire c.args.endpoint.now e (control_request_of c.args.body.now) c.in-Some.reply c.control.new.self c.send.new.out c.in-Some.ensures.reply c.in-Some.ensures.after
    (subst (λ (n : ℕ). IsSent wire n e c.in-Some.reply c.send.new.out) c.eid.ensures
    (subst (λ (xs : List ℕ). IsSent wire c.eid.result e xs c.send.new.out) c.as_slice.ensures.value (λ some. ((c.send.ensures some).sent, (c.send.ensures some).read))))
