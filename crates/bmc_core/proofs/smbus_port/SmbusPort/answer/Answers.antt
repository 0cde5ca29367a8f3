use Rattle.std.proofs.Common.{◌≡◌, true, false, sym, ◌∙◌, subst}
use Rattle.model_bus.specs.Carried.{IsNew}
use Rattle.bmc_core.specs.declared.out.Disposition.TheVariants as done
use Rattle.bmc_core.specs.declared.smbus_port.SmbusPort.{SmbusPort}
use Rattle.bmc_core.specs.Outs.{sends}
use Rattle.bmc_core.specs.SmbusHeard.{InMessage, Asks, found, kept_with}
use Rattle.bmc_core.specs.SmbusShown.{HasMessageEffect, frames_from}
use Rattle.bmc_core.proofs.SmbusPorts.{settled_as, settled, parts_at, new, answered}
use Rattle.bmc_core.proofs.smbus_port.SmbusPort.answer.Goals as goal

pub returns-then-settle : goal.returns-then-settle
returns-then-settle c p shows =
    let port = c.args.self.now in
    let m : InMessage = c.request-request.result in
    let at = c.at-at.result in
    subst (λ (x : InMessage). HasMessageEffect port c.settle.new.out p (Asks x) c.args.answered.now) c.request-request.ensures
    ((settled port c.settle.new.out c.args.out.now p m shows
    (settled_as p m at.wire at.eid c.args.out.now c.settle.new.out c.settle.result true (shows.wire ∙ sym c.at-at.ensures.wire) (shows.eid ∙ sym c.at-at.ensures.eid) c.if-settle.true (c.settle.ensures p.log shows.log))).1
    c.args.answered.now)

pub returns : goal.returns
returns c p shows =
    let port = c.args.self.now in
    let a = c.args.answered.now in
    let m : InMessage = c.request-request.result in
    let at = c.at-at.result in
    let at_wire : p.wire ≡ at.wire = shows.wire ∙ sym c.at-at.ensures.wire in
    let at_eid : p.eid ≡ at.eid = shows.eid ∙ sym c.at-at.ensures.eid in
    let next : SmbusPort = record { wire = port.wire; endpoint = port.endpoint; assembler = port.assembler; windows = c.keep_answer.new.windows; made = c.keep_answer.new.made } in
    let is : found p m ≡ IsNew =
    new (found p m) _ _ c.args.out.now c.settle.new.out
    (settled_as p m at.wire at.eid c.args.out.now c.settle.new.out c.settle.result false at_wire at_eid c.if-settle.false (c.settle.ensures p.log shows.log)) in
    let sent : c.keep_answer.new.out ≡ sends (frames_from p.wire p.eid m.envelope (kept_with m a).reply) done.Answered =
    c.keep_answer.ensures.sent.sent ∙ (λ i. sends (frames_from (sym at_wire i) (sym at_eid i) m.envelope (kept_with m a).reply) done.Answered) in
    subst (λ (x : InMessage). HasMessageEffect next c.keep_answer.new.out p (Asks x) a) c.request-request.ensures
    (answered next c.keep_answer.new.out p m a is (record { wire = shows.wire; eid = shows.eid; kept = shows.kept; log = c.keep_answer.ensures.kept p.log shows.log is }) sent
    (parts_at p m.envelope (kept_with m a).reply at.wire at.eid at_wire at_eid c.keep_answer.ensures.sent.read))
