use Rattle.std.proofs.Common.{◌≡◌, ◌∷◌, ◌∙◌, ap, subst}
use Rattle.mctp_net.specs.declared.packet.Envelope.{Envelope}
use Rattle.model_bus.specs.Request.{Request as Asking, Carried}
use Rattle.model_bus.specs.Numbering.{is_above}
use Rattle.model_bus.specs.Carried.{outcome}
use Rattle.bmc_core.specs.Keeps.{WindowsKeep}
use Rattle.bmc_core.specs.declared.out.Disposition.TheVariants as done
use Rattle.bmc_core.specs.SmbusHeard.{InMessage}
use Rattle.bmc_core.specs.SmbusShown.{pldm_reading, ReplyPackets}
use Rattle.bmc_core.proofs.smbus_port.replying.keep.Goals as goal

pub returns-clause-kept : goal.returns-clause-kept
returns-clause-kept c log h new = record {
  kept = subst (λ (r : Asking). WindowsKeep 32 pldm_reading c.keep.new.self (Carried (record { request = r; reply = c.args.reply.now }) ∷ log)) c.kept.ensures.is
      (c.keep.ensures.carried pldm_reading log h.kept (ap (λ (r : Asking). outcome (is_above 32) r log) c.kept.ensures.is ∙ new));
  replies = (c.requires.some, h.replies);
}

pub returns-clause-sent : goal.returns-clause-sent
returns-clause-sent c =
    let envelope : c.request.inside.envelope ≡ c.args.request.now.envelope = ap (λ (x : InMessage). x.envelope) c.request.view_is in
    subst (λ (e : Envelope). ReplyPackets c.args.at.now e c.args.reply.now done.Answered c.send.new.out) envelope (c.send.ensures c.requires.some)
