use Rattle.text_journal.proofs.FirstLines.{none_spelt, spelt_once}
use Rattle.text_journal.proofs.draft.Draft.waiting.Goals as goal

pub returns-in_default : goal.returns-in_default
returns-in_default c more next b = none_spelt c.args.text.now more b.2.0 (rw c.in_default.is at c.in_ok-found.ensures) (b.0, b.1, b.2.1.is)

pub returns-in_default-request : goal.returns-in_default-request
returns-in_default-request c more next b =
    let begins = rw c.in-Some.is at c.in_ok-found.ensures in
    let same = spelt_once c.args.text.now _ more c.in-Some.found.0.bytes.items c.in-Some.found.0.bus b.2.0 begins (b.0, b.1, b.2.1.is) in
    c.in_default-request.ensures.none b.2.0 b.2.1.request same.0 same.1
