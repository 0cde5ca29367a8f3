use Rattle.std.proofs.Common.{◌∙◌, ap, inl, inr, refl, string_bytes, subst}
use Rattle.std.specs.Prelude.{not}
use Rattle.undo_plans.specs.KeptManager.{Kept}
use Rattle.text_journal.specs.JournalText.{IsTextOf}
use Rattle.text_journal.specs.Written.{text_of}
use Rattle.app_journal.specs.Keeping.{has_open}
use Rattle.app_journal.proofs.keeper.JournalKeeperObserver.look.Goals as goal

pub returns-in-Ok-put : goal.returns-in-Ok-put
returns-in-Ok-put g c = (
  inl (record {
    text = string_bytes c.write_journal_into.new.text;
    is = record {
      written = c.in-Ok.ensures.text ∙ ap text_of c.journal-journal.ensures.kept;
      stands = subst (IsTextOf (string_bytes c.write_journal_into.new.text)) c.journal-journal.ensures.kept c.in-Ok.ensures.stands;
    };
    puts = c.in-Ok-put.ensures;
    may = refl;
  }),
  refl,
  refl,
)

pub returns-in-Err-put : goal.returns-in-Err-put
returns-in-Err-put g c = (
  inr (inl (record {
    text = string_bytes c.write_journal_into.new.text;
    is = record {
      written = c.in-Ok.ensures.text ∙ ap text_of c.journal-journal.ensures.kept;
      stands = subst (IsTextOf (string_bytes c.write_journal_into.new.text)) c.journal-journal.ensures.kept c.in-Ok.ensures.stands;
    };
    why = c.in-Err-put.field-0;
    puts = c.in-Err-put.ensures;
    may = ap not (c.has_open-open.ensures ∙ ap (λ (k : Kept). has_open k.stage) c.journal-journal.ensures.kept);
  })),
  refl,
  refl,
)
