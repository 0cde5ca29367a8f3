use Rattle.std.proofs.Common.{inl, inr, refl, string_bytes}
use Rattle.undo_plans.specs.Journals.{kept_in}
use Rattle.text_check.specs.declared.text_form.TextForm.TheVariants as looks
use Rattle.text_check.specs.Worded.{AreJournalLines, AreWords}
use Rattle.text_check.proofs.FaultyWords.{journal_bad}
use Rattle.text_check.proofs.Lined.{on_ok, tells_as, tells_nothing}
use Rattle.text_check.proofs.worded.tell_journal.Goals as goal

pub returns-in-Ok : goal.returns-in-Ok
returns-in-Ok c =
    let kept = kept_in c.in-Ok.journal.contents in
    on_ok c.push_journal.result _ _
    (λ told. tells_as (AreJournalLines c.args.source.name.now kept) (AreWords looks.Journal c.args.source.name.now c.args.source.file.now)
    (string_bytes c.args.text.now) (string_bytes c.push_journal.new.text) (λ lines are. inl (kept, c.in-Ok.ensures.journal, are)) told)
    c.push_journal.ensures

pub returns-in-Err-Line : goal.returns-in-Err-Line
returns-in-Err-Line c =
    let at = c.in-Err-Line in
    tells_nothing (AreWords looks.Journal c.args.source.name.now c.args.source.file.now) (string_bytes c.args.text.now)
    (inr (journal_bad c.args.source.file.now at.field-0 at.field-0-0 at.ensures.fault at.field-0-is, refl))
