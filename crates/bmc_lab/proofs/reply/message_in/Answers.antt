use Rattle.std.proofs.Common.{◌∙◌, ◌++◌, ℕ, List, ap, subst, sym}
use Rattle.mctp_net.specs.Grammar.{IsPacket}
use Rattle.bmc_lab.proofs.Carried.{carried_more, not_carried}
use Rattle.bmc_lab.proofs.Found.{failed_apart}
use Rattle.bmc_lab.proofs.reply.message_in.Goals as goal

pub returns-in_default-clause-none : goal.returns-in_default-clause-none
returns-in_default-clause-none c =
    not_carried c.args.frames.now c.loop-frame.frame-index c.frame-item.result c.loop-frame-test.true c.frame-item.is
    (λ packet reads. failed_apart c.in_default.field-0 packet (c.in_default.ensures.whole packet (subst (λ (b : List ℕ). IsPacket packet b) (sym c.as_slice.ensures.value) reads)))

pub loop-frame-preserved : goal.loop-frame-preserved
loop-frame-preserved c =
    carried_more c.args.frames.now c.loop-frame.frame-index c.frame-item.result c.loop-frame.message.items c.extend_from_slice.new.self.items c.in-Ok.packet
    c.loop-frame-test.true c.frame-item.is c.loop-frame.invariant (subst (λ (b : List ℕ). IsPacket c.in-Ok.packet b) c.as_slice.ensures.value c.in-Ok.ensures.read)
    (c.in_ok-extend_from_slice.ensures.items ∙ ap (λ (l : List ℕ). c.loop-frame.message.items ++ l) c.as_slice-in-loop-frame.ensures.value)
