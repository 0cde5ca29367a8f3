use Rattle.std.proofs.Common.{◌≡◌, ◌≤◌, List, ℕ, codes, sym, ◌∙◌, subst}
use Rattle.std.proofs.Common.{length}
use Rattle.undo_plans.specs.Bounds.{most_kept}
use Rattle.text_journal.proofs.FirstLines.{bytes_once, empty_is, refused}
use Rattle.text_journal.proofs.draft.Draft.shown.Goals as goal

pub returns-in_default : goal.returns-in_default
returns-in_default c more next b = (rw c.in_default.is at c.in_ok-found.ensures) more b.2.0 (b.0, b.1, b.2.1)

pub returns-then-is_empty : goal.returns-then-is_empty
returns-then-is_empty c more next b =
    let begins = rw c.in-Some.is at c.in_ok-found.ensures in
    let same = bytes_once (codes "replies ") c.args.text.now _ more c.in-Some.found.0.items b.2.0 begins (b.0, b.1, b.2.1) in
    b.2.2 (sym (c.as_slice-bytes.ensures.value ∙ same) ∙ empty_is c.as_slice-bytes.result.now c.is_empty.result c.if-is_empty.true c.is_empty.ensures)

pub returns-then-not-has_replies : goal.returns-then-not-has_replies
returns-then-not-has_replies c more next b =
    let begins = rw c.in-Some.is at c.in_ok-found.ensures in
    let same = bytes_once (codes "replies ") c.args.text.now _ more c.in-Some.found.0.items b.2.0 begins (b.0, b.1, b.2.1) in
    let shown : c.as_slice-bytes.result.now ≡ b.2.0 = c.as_slice-bytes.ensures.value ∙ same in
    refused _ _ c.if-not-has_replies.true c.has_replies.ensures (subst (λ (xs : List ℕ). length xs ≤ most_kept c.args.self.now.contents.stage) (sym shown) b.2.3)
