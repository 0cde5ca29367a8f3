-- Texts of which nothing is said in words, since they have a fault.
use Rattle.std.proofs.Common.{◌≡◌, ◌≢◌, ◌⊎◌, inl, inr, ℕ, List, Result, Err, sym, subst, ◌∙◌}
use Rattle.undo_plans.specs.declared.plan.Plan.{Plan}
use Rattle.plan_file.specs.declared.plan_fault.PlanFault.{PlanFault}
use Rattle.plan_file.specs.declared.plan_fault.PlanFault.TheVariants as plan_fault
use Rattle.plan_file.specs.PlanHolds.{ReadsPlan}
use Rattle.text_lines.specs.declared.undo_text.UndoFault.{UndoFault}
use Rattle.text_lines.specs.declared.undo_text.UndoFault.TheVariants as undo_fault
use Rattle.text_lines.specs.UndoText.{IsFirstBad}
use Rattle.text_journal.specs.declared.reading.JournalTextFault.{JournalTextFault}
use Rattle.text_journal.specs.declared.reading.JournalTextFault.TheVariants as journal_fault
use Rattle.text_journal.specs.JournalText.{IsFirstBad as IsFirstBadOfJournal}

same_fault : {a b : PlanFault} → (let x : Result Plan PlanFault = Err a in x) ≡ Err b → a ≡ b
same_fault e = cc e

-- a plan that isn't read has a fault
pub plan_bad : (text : List ℕ) (result : Result Plan PlanFault) (why : PlanFault) → (result ≡ Err plan_fault.Memory) ⊎ ReadsPlan text result → result ≡ Err why → why ≢ plan_fault.Memory
    → ReadsPlan text (Err why)
plan_bad text result why (inl lacking) is other = absurd (other (same_fault (sym is ∙ lacking)))
plan_bad text result why (inr reads) is other = subst (ReadsPlan text) is reads

no_memory : {line : ℕ} → undo_fault.Memory ≡ undo_fault.Line line → ⊥
no_memory e = cc e

-- an undo text has a first bad line
pub undo_bad : (text : List ℕ) (why : UndoFault) (line : ℕ) → (why ≡ undo_fault.Memory) ⊎ ((n : ℕ) × (why ≡ undo_fault.Line n) × IsFirstBad text n) → why ≡ undo_fault.Line line
    → (n : ℕ) × IsFirstBad text n
undo_bad text why line (inl lacking) is = absurd (no_memory (sym lacking ∙ is))
undo_bad text why line (inr bad) is = (bad.0, bad.2)

lacks_none : {line : ℕ} → journal_fault.Memory ≡ journal_fault.Line line → ⊥
lacks_none e = cc e

-- and so has a journal
pub journal_bad : (text : List ℕ) (why : JournalTextFault) (line : ℕ) → (why ≡ journal_fault.Memory) ⊎ ((n : ℕ) × (why ≡ journal_fault.Line n) × IsFirstBadOfJournal text n)
    → why ≡ journal_fault.Line line → (n : ℕ) × IsFirstBadOfJournal text n
journal_bad text why line (inl lacking) is = absurd (lacks_none (sym lacking ∙ is))
journal_bad text why line (inr bad) is = (bad.0, bad.2)
