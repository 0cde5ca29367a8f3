use Rattle.std.proofs.Common.{List, ℕ, sym, subst}
use Rattle.text_lines.specs.UndoText.{BeginsWith}
use Rattle.text_journal.specs.JournalLines.{IsBytesLine}
use Rattle.text_journal.proofs.request.first_on.Goals as goal

pub returns-in_default : goal.returns-in_default
returns-in_default c more bytes b =
    (rw c.in_default.is at c.in_ok-found.ensures) more bytes
    (subst (λ (w : List ℕ). BeginsWith (λ line. IsBytesLine w line bytes) c.args.text.now more) (sym c.bus_words.ensures) b)
