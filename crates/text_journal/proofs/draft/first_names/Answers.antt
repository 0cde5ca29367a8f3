use Rattle.std.proofs.Common.{sym, ◌∙◌}
use Rattle.text_journal.specs.JournalLines.{names_bytes}
use Rattle.text_journal.proofs.FirstLines.{bytes_once}
use Rattle.text_journal.proofs.draft.first_names.Goals as goal

pub returns-in_default : goal.returns-in_default
returns-in_default c more names b = (rw c.in_default.is at c.in_ok-found.ensures) more (names_bytes names) (b.0, b.1, b.2.is)

pub returns-in_default-names_of : goal.returns-in_default-names_of
returns-in_default-names_of c more names b =
    let begins = rw c.in-Some.is at c.in_ok-found.ensures in
    let same = bytes_once c.args.words.now c.args.text.now _ more c.in-Some.found.0.items (names_bytes names) begins (b.0, b.1, b.2.is) in
    c.in_default-names_of.ensures.none names b.2.even (sym (c.as_slice.ensures.value ∙ same))
