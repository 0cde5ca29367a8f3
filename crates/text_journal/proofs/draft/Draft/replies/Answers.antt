use Rattle.std.proofs.Common.{inr}
use Rattle.text_journal.specs.JournalText.{kept_so_far}
use Rattle.text_journal.proofs.FirstLines.{ok_so, answered_so, none_shown}
use Rattle.text_journal.proofs.draft.Draft.replies.Goals as goal

pub returns-in-None : goal.returns-in-None
returns-in-None c =
    ok_so c.shown.result _ _ c.shown.ensures
    (λ found m. answered_so found _ _ _ _ m (none_shown c.args.text.now (kept_so_far c.args.self.now.contents) c.in-None.ensures.none) (λ rest t. (t.0, t.1, inr t.2)))
