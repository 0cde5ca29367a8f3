use Rattle.text_journal.specs.declared.stage.StageWord.TheVariants as word
use Rattle.text_journal.proofs.stage.word_at.Goals as goal

pub returns-then-begins_with-clause-some : goal.returns-then-begins_with-clause-some
returns-then-begins_with-clause-some c = c.begins_with.ensures.yes c.if-begins_with.true

pub returns-then-begins_with-2-clause-some : goal.returns-then-begins_with-2-clause-some
returns-then-begins_with-2-clause-some c = c.begins_with-else-begins_with.ensures.yes c.if-begins_with-2.true

pub returns-then-begins_with-3-clause-some : goal.returns-then-begins_with-3-clause-some
returns-then-begins_with-3-clause-some c = c.begins_with-else-begins_with-2.ensures.yes c.if-begins_with-3.true

pub returns-then-begins_with-4-clause-some : goal.returns-then-begins_with-4-clause-some
returns-then-begins_with-4-clause-some c = c.begins_with-else-begins_with-3.ensures.yes c.if-begins_with-4.true

pub returns-then-begins_with-5-clause-some : goal.returns-then-begins_with-5-clause-some
returns-then-begins_with-5-clause-some c = c.begins_with-else-begins_with-4.ensures.yes c.if-begins_with-5.true

pub returns-then-begins_with-6-clause-some : goal.returns-then-begins_with-6-clause-some
returns-then-begins_with-6-clause-some c = c.begins_with-else-begins_with-5.ensures.yes c.if-begins_with-6.true

pub returns-then-begins_with-7-clause-some : goal.returns-then-begins_with-7-clause-some
returns-then-begins_with-7-clause-some c = c.begins_with-else-begins_with-6.ensures.yes c.if-begins_with-7.true

pub returns-then-begins_with-8-clause-some : goal.returns-then-begins_with-8-clause-some
returns-then-begins_with-8-clause-some c = c.begins_with-else-begins_with-7.ensures.yes c.if-begins_with-8.true

pub returns-then-begins_with-9-clause-some : goal.returns-then-begins_with-9-clause-some
returns-then-begins_with-9-clause-some c = c.begins_with-else-begins_with-8.ensures.yes c.if-begins_with-9.true

pub returns-then-begins_with-10-clause-some : goal.returns-then-begins_with-10-clause-some
returns-then-begins_with-10-clause-some c = c.begins_with-else-begins_with-9.ensures.yes c.if-begins_with-10.true

pub returns-then-begins_with-11-clause-some : goal.returns-then-begins_with-11-clause-some
returns-then-begins_with-11-clause-some c = c.begins_with-else-begins_with-10.ensures.yes c.if-begins_with-11.true

pub returns-else-begins_with-11-clause-none : goal.returns-else-begins_with-11-clause-none
returns-else-begins_with-11-clause-none c word.Fresh rest = c.begins_with.ensures.no c.if-begins_with.false rest
returns-else-begins_with-11-clause-none c word.Get rest = c.begins_with-else-begins_with.ensures.no c.if-begins_with-2.false rest
returns-else-begins_with-11-clause-none c word.Set rest = c.begins_with-else-begins_with-2.ensures.no c.if-begins_with-3.false rest
returns-else-begins_with-11-clause-none c word.Undo rest = c.begins_with-else-begins_with-3.ensures.no c.if-begins_with-4.false rest
returns-else-begins_with-11-clause-none c word.Done rest = c.begins_with-else-begins_with-4.ensures.no c.if-begins_with-5.false rest
returns-else-begins_with-11-clause-none c word.Halted rest = c.begins_with-else-begins_with-5.ensures.no c.if-begins_with-6.false rest
returns-else-begins_with-11-clause-none c word.SetRefused rest = c.begins_with-else-begins_with-6.ensures.no c.if-begins_with-7.false rest
returns-else-begins_with-11-clause-none c word.NotRestorable rest = c.begins_with-else-begins_with-7.ensures.no c.if-begins_with-8.false rest
returns-else-begins_with-11-clause-none c word.GetRefused rest = c.begins_with-else-begins_with-8.ensures.no c.if-begins_with-9.false rest
returns-else-begins_with-11-clause-none c word.Undone rest = c.begins_with-else-begins_with-9.ensures.no c.if-begins_with-10.false rest
returns-else-begins_with-11-clause-none c word.UndoRefused rest = c.begins_with-else-begins_with-10.ensures.no c.if-begins_with-11.false rest
