use Rattle.std.proofs.Common.{rules, ◌≡◌, ◌≤◌, ◌∙◌, length, refl, subst, ℕ, List}
use Rattle.record_kinds.specs.Limits.{words}
use Rattle.bmc_lab.proofs.Answering.{set_none, set_all, set_more, set_never}
use Rattle.bmc_lab.proofs.setting.set.Goals as goal

pub loop-place-init : goal.loop-place-init
loop-place-init c = set_none c.args.board.now.setup c.args.board.now.setup c.args.op.now _ c.set_asked-asked.result refl c.set_asked-asked.ensures

pub returns-in_default-set_next-clause-done : goal.returns-in_default-set_next-clause-done
returns-in_default-set_next-clause-done c =
    let well : c.answer-reply.result.code ≡ 0 = search rules in
    set_all c.loop-place.board.setup c.args.board.now.setup c.args.op.now c.loop-place.place _ _ _ c.loop-place.asked c.answer-reply.result c.set_next.result
    c.loop-place.invariant c.answer-reply.ensures.row well c.set_next.ensures c.in_default-set_next.is

pub loop-place-preserved : goal.loop-place-preserved
loop-place-preserved c =
    let well : c.answer-reply.result.code ≡ 0 = search rules in
    set_more c.loop-place.board.setup c.args.board.now.setup c.args.op.now c.loop-place.place _ _ _ c.loop-place.asked c.answer-reply.result c.set_next.result
    c.loop-place.invariant c.answer-reply.ensures.row well c.set_next.ensures c.answer-reply.new.self.setup c.in-Some-set_next.next c.in-Some-set_next.is
    (c.answer-reply.ensures.setup ∙ c.loop-place.invariant.1)

pub returns-clause-done : goal.returns-clause-done
returns-clause-done c =
    let six : c.loop-place.place ≡ 6 = search rules in
    let few : length (words.set_data c.args.op.now) ≤ 1040 =
    subst (λ (l : List ℕ). length l ≤ 1040) (c.as_slice-count.ensures.value ∙ c.set_data-whole.ensures) c.as_slice-count.ensures.fits in
    absurd (set_never c.loop-place.board.setup c.args.board.now.setup c.args.op.now c.loop-place.place _ _ c.loop-place.asked c.loop-place.invariant six few)
