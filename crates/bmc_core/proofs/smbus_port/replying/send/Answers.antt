use Rattle.std.proofs.Common.{◌≡◌, ◌<◌, ◌≤◌, ℕ, List, length, map, false, sym, ◌∙◌, ap, subst}
use Rattle.two_wire.specs.declared.Bus.TheVariants.{Smbus}
use Rattle.mctp_net.specs.declared.message.Message.{Message}
use Rattle.bmc_core.specs.Values.{Part, written, parts_of}
use Rattle.bmc_core.specs.Outs.{sends, ReadBack}
use Rattle.bmc_core.specs.SmbusShown.{frames_from}
use Rattle.bmc_core.proofs.OwnBytes.{message_read}
use Rattle.bmc_core.proofs.Written.{message_written}
use Rattle.bmc_core.proofs.smbus_port.replying.send.Goals as goal

pub returns : goal.returns
returns c some =
    let at = c.args.at.now in
    let to = c.args.to.now in
    let body = c.args.body.now in
    let has : 0 < length c.new.result = subst (λ (xs : List ℕ). 0 < length xs) (sym c.new.ensures) some in
    let fits : length c.new.result ≤ 256 = subst (λ (xs : List ℕ). length xs ≤ 256) (sym c.new.ensures) c.requires in
    let frames : c.split_into.new.frames.items ≡ frames_from at.wire at.eid to body =
    message_written _ c.split_into.ensures.0 c.split_into.new.frames.items has fits c.split_into.ensures.1 c.split_into.ensures.2
    ∙ (λ i. map written (map (λ p. Part p) (parts_of (record {
      envelope = record { destination = to.source; source = at.wire; destination_eid = to.source_eid; source_eid = c.byte.ensures.value i; tag_owner = false; tag = to.tag };
      body = c.new.ensures i;
    })))) in
    record {
      sent = ap (λ (xs : List (List ℕ)). sends xs c.args.out.now.done) frames;
      read =
          subst (λ (m : Message). ReadBack Smbus (map (λ p. Part p) (parts_of m)))
          (λ i. record {
            envelope = record { destination = to.source; source = at.wire; destination_eid = to.source_eid; source_eid = c.byte.ensures.value i; tag_owner = false; tag = to.tag };
            body = c.new.ensures i;
          })
          (message_read _ c.split_into.ensures.0 c.split_into.new.frames.items has fits c.split_into.ensures.1 c.split_into.ensures.2);
    }
