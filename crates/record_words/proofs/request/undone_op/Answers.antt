use Rattle.std.proofs.Common.{sym, ◌∙◌}
use Rattle.text_journal.proofs.FirstLines.{refused}
use Rattle.record_words.proofs.ReadBack.{no_other}
use Rattle.record_words.proofs.request.undone_op.Goals as goal

pub returns-then-not-carries-clause-none : goal.returns-then-not-carries-clause-none
returns-then-not-carries-clause-none c =
    no_other _ c.in-Some.op (sym c.candidate.ensures ∙ c.in-Some.is) (refused _ _ c.if-not-carries.true c.carries.ensures)
