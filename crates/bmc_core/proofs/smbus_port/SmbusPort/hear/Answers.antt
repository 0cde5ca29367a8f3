use Rattle.std.proofs.Common.{rules, ◌≡◌, Option, Some, None, refl, sym, ◌∙◌, ap, subst}
use Rattle.mctp_net.specs.declared.packet.Packet.{Packet}
use Rattle.mctp_net.specs.Places.{seen}
use Rattle.bmc_core.specs.PortSteps.{PortState}
use Rattle.bmc_core.specs.declared.step.Step.TheVariants as step
use Rattle.bmc_core.specs.declared.smbus_port.SmbusPort.{SmbusPort}
use Rattle.bmc_core.specs.declared.smbus_port.pending.SmbusPending.{SmbusPending}
use Rattle.bmc_core.specs.SmbusHeard.{InMessage, HeardMessage, message_heard}
use Rattle.bmc_core.specs.SmbusShown.{IsAskedRequest, IsStep, MessageRead, request_in}
use Rattle.bmc_core.proofs.SmbusPorts.{hearing_map, ended, message_is}
use Rattle.bmc_core.proofs.smbus_port.SmbusPort.hear.Goals as goal

pub returns-in_default : goal.returns-in_default
returns-in_default c p shows =
    let port = c.args.self.now in
    let left = seen c.read.new.assembler in
    let out = c.read.new.out in
    let next : SmbusPort = record { wire = port.wire; endpoint = port.endpoint; assembler = c.read.new.assembler; windows = port.windows; made = port.made } in
    let none : c.read.result ≡ None = search rules in
    let read : MessageRead p c.args.bytes.now left out None =
    subst (λ (o : Option Packet). MessageRead p c.args.bytes.now left out o) none (c.read.ensures p shows.wire shows.eid shows.kept) in
    hearing_map p c.args.bytes.now _ (IsStep next out step.Done)
    (λ now h is. subst (λ (x : PortState). IsStep next out step.Done x h) (sym is.0)
    (ended next out (record p { kept = left }) h p.eid is.1 (record { wire = shows.wire; eid = shows.eid; kept = refl; log = shows.log }))) read

pub returns-in-None : goal.returns-in-None
returns-in-None c p shows =
    let port = c.args.self.now in
    let q = c.in-Some.packet in
    let left = seen c.read.new.assembler in
    let out = c.heard.new.out in
    let next : SmbusPort = record { wire = port.wire; endpoint = c.heard.new.endpoint; assembler = c.read.new.assembler; windows = port.windows; made = port.made } in
    let at : PortState = record p { kept = left } in
    let heard : HeardMessage = message_heard (record { envelope = q.envelope; body = c.body.result.now }) in
    let some : c.read.result ≡ Some q = search rules in
    let read : MessageRead p c.args.bytes.now left c.read.new.out (Some q) =
    subst (λ (o : Option Packet). MessageRead p c.args.bytes.now left c.read.new.out o) some (c.read.ensures p shows.wire shows.eid shows.kept) in
    let given = c.heard.ensures at next shows.wire shows.eid shows.log (record { wire = shows.wire; eid = refl; kept = refl; log = shows.log }) in
    hearing_map p c.args.bytes.now _ (IsStep next out step.Done)
    (λ now h is. subst (λ (x : PortState). IsStep next out step.Done x h) (sym is.0)
    (subst (λ (k : HeardMessage). IsStep next out step.Done at k) (message_is left q c.body.result.now c.body.ensures.value ∙ sym is.1)
    (subst (λ (o : Option InMessage). IsAskedRequest next out o at heard) c.in-None.is given))) read

pub returns-in-Some-heard : goal.returns-in-Some-heard
returns-in-Some-heard c p shows =
    let port = c.args.self.now in
    let q = c.in-Some.packet in
    let m : InMessage = c.in-Some-heard.request in
    let left = seen c.read.new.assembler in
    let out = c.heard.new.out in
    let next : SmbusPort = record { wire = port.wire; endpoint = c.heard.new.endpoint; assembler = c.read.new.assembler; windows = port.windows; made = port.made } in
    let at : PortState = record p { kept = left } in
    let heard : HeardMessage = message_heard (record { envelope = q.envelope; body = c.body.result.now }) in
    let some : c.read.result ≡ Some q = search rules in
    let read : MessageRead p c.args.bytes.now left c.read.new.out (Some q) =
    subst (λ (o : Option Packet). MessageRead p c.args.bytes.now left c.read.new.out o) some (c.read.ensures p shows.wire shows.eid shows.kept) in
    let given = c.heard.ensures at next shows.wire shows.eid shows.log (record { wire = shows.wire; eid = refl; kept = refl; log = shows.log }) in
    let same : m ≡ request_in c.pending.result = sym (ap (λ (x : SmbusPending). request_in x) c.pending.ensures) in
    hearing_map p c.args.bytes.now _ (IsStep next out (step.Ask c.pending.result))
    (λ now h is. subst (λ (x : PortState). IsStep next out (step.Ask c.pending.result) x h) (sym is.0)
    (subst (λ (k : HeardMessage). IsStep next out (step.Ask c.pending.result) at k) (message_is left q c.body.result.now c.body.ensures.value ∙ sym is.1)
    (subst (λ (x : InMessage). IsAskedRequest next out (Some x) at heard) same (subst (λ (o : Option InMessage). IsAskedRequest next out o at heard) c.in-Some-heard.is given)))) read
