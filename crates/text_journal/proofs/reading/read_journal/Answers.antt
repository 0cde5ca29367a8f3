use Rattle.std.proofs.Common.{inl, inr, arith, refl, rules}
use Rattle.text_journal.specs.JournalText.{said_in}
use Rattle.text_journal.proofs.Drafts.{begun_none, begun_more, begun_bad, begun_short, open_on, open_start, shorter}
use Rattle.text_journal.proofs.FirstLines.{empty_is, filled}
use Rattle.text_journal.proofs.reading.read_journal.Goals as goal

pub loop-rest-init : goal.loop-rest-init
loop-rest-init c = (search rules, begun_none c.args.text.now _ c.in-Ok.ensures, open_start _ c.in-Ok.ensures, omega arith)

pub loop-rest-preserved : goal.loop-rest-preserved
loop-rest-preserved c =
    let takes = rw c.in-Some.is at c.in-Ok-take.ensures in (
      search rules,
      begun_more c.args.text.now c.loop-rest.rest.now c.in-Some.behind.now c.loop-rest.line _ _ c.loop-rest.invariant.1 takes,
      open_on _ _ c.loop-rest.rest.now c.in-Some.behind.now c.loop-rest.invariant.2 takes,
      omega (arith, c.loop-rest.invariant.3, shorter c.loop-rest.rest.now c.in-Some.behind.now _ _ takes),
    )

pub loop-rest-smaller : goal.loop-rest-smaller
loop-rest-smaller c = shorter c.loop-rest.rest.now c.in-Some.behind.now _ _ (rw c.in-Some.is at c.in-Ok-take.ensures)

pub returns-in_default-found-clause-fault : goal.returns-in_default-found-clause-fault
returns-in_default-found-clause-fault c =
    inr (
      c.loop-rest.line,
      refl,
      begun_bad c.args.text.now c.loop-rest.rest.now c.loop-rest.line _ c.loop-rest.invariant.1 (rw c.in_default-found.is at c.in-Ok-take.ensures)
          (inl (filled c.loop-rest.rest.now c.is_empty.result c.loop-rest-test.true c.is_empty.ensures)),
    )

pub returns-in-None-clause-fault : goal.returns-in-None-clause-fault
returns-in-None-clause-fault c =
    inr (
      c.loop-rest.line,
      refl,
      begun_short c.args.text.now c.loop-rest.rest.now c.loop-rest.line (said_in c.loop-rest.draft) c.loop-rest.invariant.1
          (empty_is c.loop-rest.rest.now c.is_empty.result c.loop-rest-test.false c.is_empty.ensures) c.in-None.ensures.none,
    )
