use Rattle.std.proofs.Common.{◌≡◌, ◌↔◌, IsTrue, Bool, true, false, Result, Ok, Err, sym, ◌∙◌, ap, subst}
use Rattle.std.proofs.lemmas.Bool.{true≢false}
use Rattle.two_wire.specs.declared.Bus.{Bus}
use Rattle.mctp_net.specs.declared.fault.PacketFault.{PacketFault}
use Rattle.mctp_net.specs.declared.packet.Packet.{Packet}
use Rattle.undo_plans.specs.GreetingRequests.{IsReplyTo, is_told_in}
use Rattle.undo_plans.proofs.greeting_hearing.is_reply_to.Goals as goal

-- what was read, or else this; and whether something was
packet_read : Packet → Result Packet PacketFault → Packet
packet_read other (Ok packet) = packet
packet_read other (Err fault) = other

is_read : Result Packet PacketFault → Bool
is_read (Ok packet) = true
is_read (Err fault) = false

pub returns-in-Ok : goal.returns-in-Ok
unfolding packet_read
returns-in-Ok c =
    let names = c.args.names.now in
    let count = c.args.count in
    let packet = c.in-Ok.packet in
    subst (λ (bus : Bus). IsTrue c.is_told_in.result ↔ IsReplyTo c.args.busy names bus count c.args.bytes.now) (sym c.in-Smbus.is) (
      (λ answers. (packet, c.in-Ok.ensures.read, subst IsTrue c.is_told_in.ensures answers)),
      (λ answer.
          let same : packet ≡ answer.0 = ap (packet_read packet) (sym c.in-Ok.is ∙ c.read_packet.ensures.whole answer.0 answer.1) in
          subst IsTrue (sym (c.is_told_in.ensures ∙ ap (is_told_in c.args.busy names count) same)) answer.2),
    )

pub returns-in-Err : goal.returns-in-Err
unfolding is_read
returns-in-Err c =
    subst (λ (bus : Bus). IsTrue false ↔ IsReplyTo c.args.busy c.args.names.now bus c.args.count c.args.bytes.now) (sym c.in-Smbus.is) (
      (λ answers. absurd (true≢false (sym answers))),
      (λ answer. absurd (true≢false (ap is_read (sym (c.read_packet.ensures.whole answer.0 answer.1) ∙ c.in-Err.is)))),
    )
