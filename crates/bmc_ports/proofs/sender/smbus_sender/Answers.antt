use Rattle.mctp_net.specs.declared.packet.Packet.{Packet}
use Rattle.mctp_net.specs.Grammar.{IsPacket}
use Rattle.bmc_ports.proofs.Senders.{unread}
use Rattle.bmc_ports.proofs.sender.smbus_sender.Goals as goal

pub returns-in-Err : goal.returns-in-Err
returns-in-Err c =
    unread (λ (p : Packet). IsPacket p c.args.frame.now) (λ (p : Packet). p.envelope.source_eid) c.in-Err.field-0 c.in-Err.ensures.whole
