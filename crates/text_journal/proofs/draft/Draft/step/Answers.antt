use Rattle.record_kinds.specs.Series.{set_whole}
use Rattle.text_journal.proofs.FirstLines.{none_spelt, spelt_once}
use Rattle.text_journal.proofs.draft.Draft.step.Goals as goal

pub returns-in_default : goal.returns-in_default
returns-in_default c more next b = none_spelt c.args.text.now more (set_whole b.2.0) (rw c.in_default.is at c.in_ok-found.ensures) (b.0, b.1, b.2.1)

pub returns-in_default-step : goal.returns-in_default-step
returns-in_default-step c more next b =
    let begins = rw c.in-Some.is at c.in_ok-found.ensures in
    let same = spelt_once c.args.text.now _ more c.in-Some.found.0.bytes.items c.in-Some.found.0.bus (set_whole b.2.0) begins (b.0, b.1, b.2.1) in
    c.in_default-step.ensures.none b.2.0 same.0 same.1
