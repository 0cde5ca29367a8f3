use Rattle.std.proofs.Common.{rules, ◌≡◌, ◌∙◌}
use Rattle.bmc_lab.proofs.Answering.{got_all, got_more, got_never}
use Rattle.bmc_lab.proofs.getting.replies_to.Goals as goal

pub returns-in_default-next-clause-replies : goal.returns-in_default-next-clause-replies
returns-in_default-next-clause-replies c =
    let well : c.answer-reply.result.code ≡ 0 = search rules in
    got_all c.loop-before.board.setup c.args.board.now.setup c.args.key.now c.loop-before.replies.items c.push.new.self.items c.loop-before.before _ _ _ c.loop-before.asked c.answer-reply.result
    c.as_slice.result.now c.next_part-next.result c.loop-before.invariant c.answer-reply.ensures.row well c.as_slice.ensures.value c.next_part-next.ensures c.in_ok-push.ensures.items c.in_default-next.is

pub loop-before-preserved : goal.loop-before-preserved
loop-before-preserved c =
    let well : c.answer-reply.result.code ≡ 0 = search rules in
    let more = got_more c.loop-before.board.setup c.args.board.now.setup c.args.key.now c.loop-before.replies.items c.push.new.self.items c.loop-before.before _ _ _ c.loop-before.asked c.answer-reply.result
    c.as_slice.result.now c.next_part-next.result c.loop-before.invariant c.answer-reply.ensures.row well c.as_slice.ensures.value c.next_part-next.ensures c.in_ok-push.ensures.items
    c.in-Some-next.next c.in-Some-next.is c.loop-before.invariant.3 in
    (more.0, more.1, more.2, c.answer-reply.ensures.setup ∙ c.loop-before.invariant.3)

pub returns-clause-replies : goal.returns-clause-replies
returns-clause-replies c =
    let six : c.loop-before.before ≡ 6 = search rules in
    absurd (got_never c.loop-before.board.setup c.args.board.now.setup c.args.key.now c.loop-before.replies.items c.loop-before.before _ _ c.loop-before.asked c.loop-before.invariant six)
