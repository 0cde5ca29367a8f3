use Rattle.std.proofs.Common.{◌≡◌, ◌<◌, ◌≤◌, ℕ, List, length, map, sym, ◌∙◌, subst}
use Rattle.std.specs.List.{AllZip}
use Rattle.two_wire.specs.declared.Bus.TheVariants as bus
use Rattle.mctp_net.specs.declared.packet.Packet.{Packet}
use Rattle.mctp_net.specs.declared.message.Message.{Message}
use Rattle.bmc_core.specs.Values.{Part, parts_of, IsFrameOn}
use Rattle.model_lab.specs.Meaning.{message_of}
use Rattle.bmc_core.proofs.Written.{message_read}
use Rattle.lab_run.proofs.port_side.message_frames.Goals as goal

pub returns : goal.returns
returns c =
    let same : c.new-body.result ≡ c.as_slice.result.now = c.new-body.ensures in
    let some : 0 < length c.new-body.result = subst (λ (xs : List ℕ). 0 < length xs) (sym same) c.as_slice.ensures.some in
    let fits : length c.new-body.result ≤ 256 = subst (λ (xs : List ℕ). length xs ≤ 256) (sym same) c.as_slice.ensures.fits in
    let names = c.args.names.now in
    let m = message_of names c.args.message.now in
    subst (λ (w : Message). AllZip (IsFrameOn bus.Smbus) (map (λ (p : Packet). Part p) (parts_of w)) c.split.result.items)
    (λ i. record { envelope = record m.envelope { source = c.others.ensures i; tag = c.new.ensures i }; body = (same ∙ c.as_slice.ensures.value) i })
    (message_read _ c.split.ensures.0 c.split.result.items some fits c.split.ensures.1 c.split.ensures.2)
