use Rattle.std.proofs.Common.{rules, ◌≡◌, Option, Some, None, refl, sym, subst}
use Rattle.mctp_net.specs.declared.packet.Packet.{Packet}
use Rattle.mctp_net.specs.Places.{seen}
use Rattle.bmc_core.specs.declared.smbus_port.SmbusPort.{SmbusPort}
use Rattle.bmc_core.specs.SmbusHeard.{InMessage, message_heard}
use Rattle.bmc_core.specs.SmbusShown.{IsAskedRequest, MessageRead, pending_of}
use Rattle.bmc_core.proofs.SmbusServing.{ReadBy, HeardBy, unread, unasked, refused_so, carried_out, carried_so}
use Rattle.bmc_core.proofs.smbus_port.SmbusPort.serve.Goals as goal

pub returns-in_default : goal.returns-in_default
returns-in_default g c =
    let port = c.args.self.now in
    let left = seen c.read.new.assembler in
    let now : SmbusPort = record port { assembler = c.read.new.assembler } in
    let none : c.read.result ≡ None = search rules in
    let read : ReadBy port now c.args.bytes.now c.read.new.out None =
    λ p wire eid kept. subst (λ (o : Option Packet). MessageRead p c.args.bytes.now left c.read.new.out o) none (c.read.ensures p wire eid kept) in
    (unread port now c.args.bytes.now c.read.new.out read, refl)

pub returns-in_default-heard : goal.returns-in_default-heard
returns-in_default-heard g c =
    let port = c.args.self.now in
    let q = c.in-Some.packet in
    let left = seen c.read.new.assembler in
    let now : SmbusPort = record port { assembler = c.read.new.assembler; endpoint = c.heard.new.endpoint } in
    let some : c.read.result ≡ Some q = search rules in
    let none : c.heard.result ≡ None = search rules in
    let read : ReadBy port now c.args.bytes.now c.read.new.out (Some q) =
    λ p wire eid kept. subst (λ (o : Option Packet). MessageRead p c.args.bytes.now left c.read.new.out o) some (c.read.ensures p wire eid kept) in
    let heard : HeardBy port now q c.body.result.now c.heard.new.out None =
    λ p next wire eid of shows. subst (λ (o : Option InMessage). IsAskedRequest next c.heard.new.out o p (message_heard (record { envelope = q.envelope; body = c.body.result.now }))) none
    (c.heard.ensures p next wire eid of shows) in
    (unasked port now c.args.bytes.now q c.body.result.now c.read.new.out read c.body.ensures.value c.heard.new.out heard, refl)

pub returns-in-Ok : goal.returns-in-Ok
returns-in-Ok g c =
    let port = c.args.self.now in
    let q = c.in-Some.packet in
    let m : InMessage = c.in-Some-heard.request in
    let left = seen c.read.new.assembler in
    let now : SmbusPort = record port { assembler = c.read.new.assembler; endpoint = c.heard.new.endpoint } in
    let next : SmbusPort = record now { windows = c.carry_out.new.windows; made = c.carry_out.new.made } in
    let packet : c.read.result ≡ Some q = search rules in
    let some : c.heard.result ≡ Some m = search rules in
    let read : ReadBy port now c.args.bytes.now c.read.new.out (Some q) =
    λ p wire eid kept. subst (λ (o : Option Packet). MessageRead p c.args.bytes.now left c.read.new.out o) packet (c.read.ensures p wire eid kept) in
    let heard : HeardBy port now q c.body.result.now c.heard.new.out (Some m) =
    λ p next wire eid of shows. subst (λ (o : Option InMessage). IsAskedRequest next c.heard.new.out o p (message_heard (record { envelope = q.envelope; body = c.body.result.now }))) some
    (c.heard.ensures p next wire eid of shows) in
    let carries = g.C.Carrier.carries c.args.carrier.now c.args.kept.now in
    carried_so port now c.args.bytes.now q c.body.result.now c.read.new.out read c.body.ensures.value carries c.heard.new.out m next
    c.eid.result c.carry_out.new.out c.carry_out.new.kept heard (sym c.eid.ensures)
    (carried_out carries _ _ _ m _ _ _ c.in-Ok.ensures.answered c.in-Ok.ensures.kept c.in-Ok.ensures.sent)

pub returns-in-Err : goal.returns-in-Err
returns-in-Err g c =
    let port = c.args.self.now in
    let q = c.in-Some.packet in
    let m : InMessage = c.in-Some-heard.request in
    let left = seen c.read.new.assembler in
    let now : SmbusPort = record port { assembler = c.read.new.assembler; endpoint = c.heard.new.endpoint } in
    let next : SmbusPort = record now { windows = c.carry_out.new.windows; made = c.carry_out.new.made } in
    let packet : c.read.result ≡ Some q = search rules in
    let some : c.heard.result ≡ Some m = search rules in
    let read : ReadBy port now c.args.bytes.now c.read.new.out (Some q) =
    λ p wire eid kept. subst (λ (o : Option Packet). MessageRead p c.args.bytes.now left c.read.new.out o) packet (c.read.ensures p wire eid kept) in
    let heard : HeardBy port now q c.body.result.now c.heard.new.out (Some m) =
    λ p next wire eid of shows. subst (λ (o : Option InMessage). IsAskedRequest next c.heard.new.out o p (message_heard (record { envelope = q.envelope; body = c.body.result.now }))) some
    (c.heard.ensures p next wire eid of shows) in (
      (
        pending_of m,
        refused_so port now c.args.bytes.now q c.body.result.now c.read.new.out read c.body.ensures.value c.heard.new.out c.carry_out.new.out m next heard c.in-Err.ensures.same,
      ),
      c.in-Err.ensures.refused,
    )
