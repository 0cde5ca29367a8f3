use Rattle.std.proofs.Common.{◌∙◌, ap, string_bytes, subst}
use Rattle.text_journal.specs.JournalText.{IsTextOf}
use Rattle.text_journal.specs.Written.{text_of}
use Rattle.app_journal.proofs.KeepingFacts.{texts_of}
use Rattle.app_journal.proofs.keeper.JournalTexts.of.Goals as goal

pub returns : goal.returns
returns c =
    let text = string_bytes c.in_ok-text.text in
    texts_of c.args.manager.now text c.with_room.result
    (record {
      written = c.in_ok-text.ensures.text ∙ ap text_of c.journal-journal.ensures.kept;
      stands = subst (IsTextOf text) c.journal-journal.ensures.kept c.in_ok-text.ensures.stands;
    })
    c.with_room.ensures
