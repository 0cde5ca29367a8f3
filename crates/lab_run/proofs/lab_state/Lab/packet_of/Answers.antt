use Rattle.std.proofs.Common.{◌∙◌, Bool, Some, sym, ap, subst}
use Rattle.two_wire.specs.declared.Bus.{Bus}
use Rattle.mctp_net.specs.Grammar.{IsPacket}
use Rattle.bmc_core.specs.Values.{IsFrameOn}
use Rattle.lab_run.specs.declared.part.ManagerPart.{ManagerPart}
use Rattle.lab_run.proofs.Parts.{some_on_smbus, looked_at, no_error, ok_same}
use Rattle.lab_run.proofs.lab_state.Lab.packet_of.Goals as goal

pub returns-in_default : goal.returns-in_default
returns-in_default c file x f shows is on =
    let s = c.args.frame.now in
    let some = some_on_smbus f.value s.bytes (subst (λ (b : Bus). IsFrameOn b f.value s.bytes) on is.read) in
    let read = c.read_packet.ensures.whole some.0 (subst (IsPacket some.0) (sym c.as_slice.ensures.value) some.2) in
    absurd (no_error c.read_packet.result some.0 c.in_default.field-0 read c.in_default.is)

pub returns : goal.returns
returns c file x f shows is on =
    let s = c.args.frame.now in
    let some = some_on_smbus f.value s.bytes (subst (λ (b : Bus). IsFrameOn b f.value s.bytes) on is.read) in
    let read = c.read_packet.ensures.whole some.0 (subst (IsPacket some.0) (sym c.as_slice.ensures.value) some.2) in
    let packet = c.in-Ok.packet in
    ap (λ (t : Bool). Some (let m : ManagerPart = record { start = packet.start; tag = packet.envelope.tag; request = s.mark.request; ours = t } in m)) c.goes_to-ours.ensures
    ∙ looked_at x s f some.0 c.in-Ok.packet c.byte-own.result is some.1 (ok_same c.read_packet.result c.in-Ok.packet some.0 c.in-Ok.is read)
    (c.byte-own.ensures.value ∙ c.at.ensures.eid ∙ sym shows.smbus.eid)
