use Rattle.std.specs.Prelude.{Result, Ok, Err}
use Rattle.std.proofs.Common.{inr, Bool, true, false, None, refl, sym, ◌∙◌, ap, subst}
use Rattle.std.proofs.lemmas.Bool.{true≢false}
use Rattle.two_wire.specs.declared.Bus.{Bus}
use Rattle.mctp_net.specs.declared.fault.PacketFault.{PacketFault}
use Rattle.mctp_net.specs.declared.packet.Packet.{Packet}
use Rattle.undo_look.specs.Looks.{HearsFrame}
use Rattle.undo_look.proofs.looker.Looker.on_frame.Goals as goal

-- whether something was read
is_read : Result Packet PacketFault → Bool
is_read (Ok packet) = true
is_read (Err fault) = false

pub returns-in-Err : goal.returns-in-Err
unfolding is_read
returns-in-Err c =
    subst (λ (on : Bus). HearsFrame on c.args.bytes.now c.args.self.now c.args.self.now None) (sym c.in-Smbus.is)
    (inr ((λ packet is. true≢false (ap is_read (sym (c.read_packet.ensures.whole packet is) ∙ c.in-Err.is))), (refl, tt)))
