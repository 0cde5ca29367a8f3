use Rattle.std.proofs.Common.{inl, inr}
use Rattle.std.proofs.lemmas.Result.{IfErr-weaker, IfOk-weaker}
use Rattle.app_revert.proofs.reading.manager_of.Goals as goal

pub returns-then-is_journal-clause-manager : goal.returns-then-is_journal-clause-manager
returns-then-is_journal-clause-manager c =
    IfOk-weaker c.revived.result _ _ (λ manager made. inl (c.is_journal.ensures.0 c.if-is_journal.true, made)) c.revived.ensures.made

pub returns-then-is_journal-clause-fault : goal.returns-then-is_journal-clause-fault
returns-then-is_journal-clause-fault c =
    IfErr-weaker c.revived.result _ _ (λ why bad. bad (c.is_journal.ensures.0 c.if-is_journal.true)) c.revived.ensures.fault

pub returns-else-is_journal-clause-manager : goal.returns-else-is_journal-clause-manager
returns-else-is_journal-clause-manager c =
    IfOk-weaker c.resumed.result _ _ (λ manager made. inr ((λ is. cc (c.is_journal.ensures.1 is, c.if-is_journal.false)), made.0, made.1, made.2)) c.resumed.ensures.resumed

pub returns-else-is_journal-clause-fault : goal.returns-else-is_journal-clause-fault
returns-else-is_journal-clause-fault c =
    IfErr-weaker c.resumed.result _ _ (λ why bad. bad (λ is. cc (c.is_journal.ensures.1 is, c.if-is_journal.false))) c.resumed.ensures.fault
