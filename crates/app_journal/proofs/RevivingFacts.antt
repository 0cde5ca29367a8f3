-- What is so of a text of which a manager is made again.
use Rattle.std.proofs.Common.{◌≡◌, ◌∙◌, ◌<◌, ◌⊎◌, ℕ, List, inl, inr, refl, subst, ap}
use Rattle.two_wire.specs.Retries.{most_retries}
use Rattle.undo_plans.specs.KeptManager.{Kept}
use Rattle.text_journal.specs.JournalText.{IsTextOf}
use Rattle.text_journal.proofs.JournalLaws.{apart, one_journal_of}
use Rattle.model_lab.specs.Meaning.{lab_names}
use Rattle.undo_core.specs.declared.manager.Manager.{Manager}
use Rattle.undo_core.specs.Journals.{IsRevived, kept_by}
use Rattle.undo_core.proofs.Journals.{reviving_is_restarting}
use Rattle.app_journal.specs.declared.reviving.ReviveFault.{ReviveFault}
use Rattle.app_journal.specs.declared.reviving.ReviveFault.TheVariants as fault
use Rattle.app_journal.specs.Reviving.{IsFault, KeptTextsAreRead, KeptTextsAreRemade}

only_memory : (text : List ℕ) (manager : Manager) (why : ReviveFault) → IsTextOf text (kept_by manager) → manager.names ≡ lab_names → IsFault why text
    → (why ≡ fault.Memory) ⊎ ((why ≡ fault.Retries) × (most_retries < manager.retries))
only_memory text manager fault.Memory is own bad = inl refl
only_memory text manager (fault.Line line) is own bad = absurd (apart text (kept_by manager) line is bad)
only_memory text manager fault.Retries is own (kept, stands, more) =
    inr (refl, subst (λ (k : Kept). most_retries < k.retries) (one_journal_of text kept (kept_by manager) stands is) more)
only_memory text manager fault.OtherNames is own (kept, stands, others) =
    absurd (others.1 (ap (λ (k : Kept). k.names) (one_journal_of text kept (kept_by manager) stands is) ∙ own))

pub kept_texts_are_read : KeptTextsAreRead
kept_texts_are_read = only_memory

pub kept_texts_are_remade : KeptTextsAreRemade
kept_texts_are_remade text old new is made =
    reviving_is_restarting old new (subst (λ (k : Kept). IsRevived k new) (one_journal_of text (kept_by new) (kept_by old) made.stands is) made.revived)
