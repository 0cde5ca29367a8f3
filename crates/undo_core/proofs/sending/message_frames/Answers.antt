use Rattle.std.proofs.Common.{◌≡◌, ◌≤◌, ◌+◌, suc, ◌%◌, [], ◌∷◌, ◌++◌, ℕ, List, length, map, ◌∙◌, ap, subst, arith}
use Rattle.std.specs.List.{AllZip}
use Rattle.two_wire.specs.declared.Bus.TheVariants.{Smbus}
use Rattle.mctp_net.specs.declared.packet.Packet.{Packet}
use Rattle.mctp_net.specs.declared.message.Message.{Message}
use Rattle.model_bus.specs.Bytes.{pldm_request}
use Rattle.bmc_core.specs.Values.{Part, written, parts_of, IsFrameOn}
use Rattle.bmc_core.proofs.Written.{message_written, message_read}
use Rattle.undo_core.proofs.sending.message_frames.Goals as goal

pub returns : goal.returns
returns c from =
    let body : c.new-body.result ≡ c.args.body.now = c.new-body.ensures ∙ c.as_slice.ensures.value in
    let start : c.push.new.self ≡ 1 ∷ [] = c.push.ensures ∙ ap (λ (xs : List ℕ). xs ++ 1 ∷ []) c.new-bytes.ensures in
    let bytes : c.new.result ≡ pldm_request (record { pldm_type = c.args.kind; command = c.args.command }) (c.args.counts.smbus % 32) c.args.body.now =
    c.new.ensures ∙ c.as_slice-2.ensures.value ∙ c.write_pldm.ensures.written
    ∙ (λ i. start i ++ ((128 + c.instance.ensures i) ∷ c.args.kind ∷ c.args.command ∷ body i)) in
    let long : length c.new.result ≡ suc (suc (suc (suc (length c.args.body.now)))) = ap length bytes in
    let few : length c.args.body.now ≤ 252 = subst (λ (xs : List ℕ). length xs ≤ 252) c.as_slice.ensures.value c.as_slice.ensures.fits in
    record {
      written_as =
          message_written _ c.split.ensures.0 c.split.result.items (omega (arith, long)) (omega (arith, long, few)) c.split.ensures.1 c.split.ensures.2
          ∙ (λ i. map written (map (λ (p : Packet). Part p) (parts_of (record { envelope = c.envelope_of.ensures i; body = bytes i }))));
      read =
          subst (λ (m : Message). AllZip (IsFrameOn Smbus) (map (λ (p : Packet). Part p) (parts_of m)) c.split.result.items)
          (λ i. record { envelope = c.envelope_of.ensures i; body = bytes i })
          (message_read _ c.split.ensures.0 c.split.result.items (omega (arith, long)) (omega (arith, long, few)) c.split.ensures.1 c.split.ensures.2);
    }
