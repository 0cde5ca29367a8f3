use Rattle.std.proofs.Common.{sym, ◌∙◌, ap}
use Rattle.record_kinds.specs.Limits.{words as kinds}
use Rattle.text_journal.proofs.FirstLines.{named_once, named_step, refused}
use Rattle.text_journal.proofs.step.step_in.Goals as goal

pub returns-then-not-is-2-clause-none : goal.returns-then-not-is-2-clause-none
returns-then-not-is-2-clause-none c op here there =
    let made = named_once c.args.head c.args.body.now c.in-Some-step.op (named_step c.args.head c.args.body.now c.in-Some.kind _ (sym c.kind.ensures ∙ c.in-Some.is) (sym c.step.ensures ∙ c.in-Some-step.is)) op here there in
    refused _ _ c.if-not-is-2.true c.is-2.ensures (c.set_data-whole.ensures ∙ ap kinds.set_data (sym made) ∙ there)
