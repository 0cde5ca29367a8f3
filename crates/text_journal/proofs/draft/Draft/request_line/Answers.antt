use Rattle.std.proofs.Common.{ℕ, sym, subst}
use Rattle.std.specs.Prelude.{MatchOption}
use Rattle.text_journal.specs.JournalText.{IsUndo, Takes, Lacks, said_in, kept_so_far}
use Rattle.text_journal.proofs.FirstLines.{ok_so, answered_so}
use Rattle.text_journal.proofs.Steering.{answered, one_more, lacks_so, takes_so}
use Rattle.text_journal.proofs.draft.Draft.request_line.Goals as goal

pub returns-then-self-eq0 : goal.returns-then-self-eq0
returns-then-self-eq0 c =
    subst (λ (n : ℕ). MatchOption c.waiting_count.result (Lacks (IsUndo n (kept_so_far c.args.self.now.contents)) c.args.text.now) (λ rest. Takes (IsUndo n (kept_so_far c.args.self.now.contents)) c.args.text.now rest.now (said_in c.waiting_count.new.self)))
    (sym c.if-self-eq0.true) (answered c.waiting_count.result _ _ c.waiting_count.ensures.some c.waiting_count.ensures.none)

pub returns : goal.returns
returns c =
    let same = one_more c.args.self.now.left c.if-self-eq0.false in
    ok_so c.request.result _ _ c.request.ensures
    (λ found m. answered_so found _ _ _ _ m (lacks_so (λ n. IsUndo n (kept_so_far c.args.self.now.contents)) c.args.text.now _ _ same) (λ rest t. takes_so (λ n. IsUndo n (kept_so_far c.args.self.now.contents)) c.args.text.now rest.now _ _ _ same t))
