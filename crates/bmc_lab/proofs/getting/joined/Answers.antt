use Rattle.std.proofs.Common.{ap, sym, ◌∙◌, length}
use Rattle.std.proofs.lemmas.Result.{IfOk-weaker}
use Rattle.bios_attr.specs.EntryParts.{ends}
use Rattle.bmc_lab.proofs.Parts.{joined_none, joined_whole}
use Rattle.bmc_lab.proofs.getting.joined.Goals as goal

pub returns-then-not-ends : goal.returns-then-not-ends
returns-then-not-ends c =
    joined_none c.args.replies.now c.in-Some.last.now c.ends.result c.new-then-not-ends.result.items c.requires.several (sym c.in-Some.ensures.value)
    (c.ends.ensures ∙ ap (ends (length c.args.replies.now)) c.as_slice.ensures.value) c.if-not-ends.true c.new-then-not-ends.ensures.items

pub returns : goal.returns
returns c =
    IfOk-weaker c.whole.result _ _
    (λ shown is. joined_whole c.args.replies.now c.in-Some.last.now c.ends.result shown.items c.requires.several (sym c.in-Some.ensures.value)
    (c.ends.ensures ∙ ap (ends (length c.args.replies.now)) c.as_slice.ensures.value) c.if-not-ends.false is)
    c.whole.ensures
