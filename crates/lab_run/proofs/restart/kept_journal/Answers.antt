use Rattle.std.proofs.Common.{List, ℕ, sym, ◌∙◌, subst, inl, inr}
use Rattle.undo_plans.specs.Journals.{kept_of, kept_in}
use Rattle.text_journal.specs.JournalText.{IsTextOf}
use Rattle.text_journal.proofs.JournalLaws.{one_journal_of, apart}
use Rattle.lab_run.proofs.restart.kept_journal.Goals as goal

pub returns-in-Ok : goal.returns-in-Ok
returns-in-Ok c =
    let written : IsTextOf c.as_str.result.now (kept_of c.journal.result) =
    subst (λ (text : List ℕ). IsTextOf text (kept_of c.journal.result)) (sym c.as_str.ensures.value) c.in_ok-text.ensures.stands in
    one_journal_of c.as_str.result.now (kept_in c.in-Ok.journal.contents) (kept_of c.journal.result) c.in-Ok.ensures.journal written ∙ c.journal.ensures.kept

pub unreachable-requires : goal.unreachable-requires
unreachable-requires c =
    let written : IsTextOf c.as_str.result.now (kept_of c.journal.result) =
    subst (λ (text : List ℕ). IsTextOf text (kept_of c.journal.result)) (sym c.as_str.ensures.value) c.in_ok-text.ensures.stands in
    elim c.in-Err-Line.ensures.fault [
      | inl memory ↦ absurd (cc (memory, c.in-Err-Line.field-0-is))
      | inr bad ↦ apart c.as_str.result.now (kept_of c.journal.result) bad.0 written bad.2
    ]
