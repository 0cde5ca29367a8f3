-- What is told of a text in words: what the steps of a plan do, and what the requests that undo them put back.
use Rattle.std.specs.Prelude.{◌≡◌, ◌⊎◌, ℕ, List, [], ◌++◌, length, reverse, take, None, Ok, Err, codes}
use Rattle.std.specs.List.{AllZip, enumerate_from}
use Rattle.std.specs.Fmt.{decimal}
use Rattle.record_base.specs.declared.op.Op.{Op}
use Rattle.record_base.specs.declared.message.Asked.{Asked}
use Rattle.undo_plans.specs.declared.plan.Plan.{Plan}
use Rattle.undo_plans.specs.declared.undo_list.UndoList.{UndoList}
use Rattle.undo_plans.specs.KeptManager.{Kept}
use Rattle.plan_file.specs.declared.plan_fault.PlanFault.{PlanFault}
use Rattle.plan_file.specs.PlanHolds.{ReadsPlan}
use Rattle.text_lines.specs.UndoText.{IsTextOf, IsFirstBad}
use Rattle.text_journal.specs.JournalText.{IsTextOf as IsTextOfJournal, IsFirstBad as IsFirstBadOfJournal}
use Rattle.record_words.specs.declared.parts.Way.TheVariants.{There}
use Rattle.record_words.specs.OpWords.{op_words}
use Rattle.record_words.specs.RequestWords.{IsUndoWords}
use Rattle.text_check.specs.declared.text_form.TextForm.{TextForm}
use Rattle.text_check.specs.declared.text_form.TextForm.TheVariants as looks
use Rattle.text_check.specs.Staged.{AreStageLines, AreWaitingLines, left_at, set_at}
use Rattle.text_check.specs.Telling.{Tells}

-- ---- a plan

-- the line of a step, in a file of this name: its place, and what the step makes of its record
abbrev pub step_line : (name : List ℕ) → (step : ℕ) → Op → List ℕ
step_line name step op = name ++ (codes ": step " ++ (decimal step ++ (codes ": " ++ op_words There op None)))

abbrev pub IsStepLine : (name line : List ℕ) → ℕ × Op → Type 0
IsStepLine name line step = line ≡ step_line name step.0 step.1

-- a line for each step, in their order; steps count from 0
abbrev pub AreStepLines : (name : List ℕ) → List Op → List (List ℕ) → Type 0
AreStepLines name steps lines = AllZip (IsStepLine name) lines (enumerate_from 0 steps)

-- ---- a list of requests that undo

-- the line of a step that is undone, in a file of this name: its place, and words
abbrev pub undo_line : (name : List ℕ) → (step : ℕ) → (words : List ℕ) → List ℕ
undo_line name step words = name ++ (codes ": undo of step " ++ (decimal step ++ (codes ": " ++ words)))

-- the words are what the request puts back
pub record IsUndoLine (name line : List ℕ) (back : ℕ × Asked) : Type 0 where
  pub words : List ℕ
  pub said : IsUndoWords words back.1
  pub spelt : line ≡ undo_line name back.0 words

-- a line for each of the first so many requests, in the order in which they are sent: the last first
abbrev pub AreUndoLines : (name : List ℕ) → (count : ℕ) → List Asked → List (List ℕ) → Type 0
AreUndoLines name count requests lines = AllZip (IsUndoLine name) lines (reverse (take count (enumerate_from 0 requests)))

-- ---- a journal

-- how far the manager is, what undoes the step whose Set is open, and what is taken back of the steps that were done
pub record AreJournalLines (name : List ℕ) (kept : Kept) (lines : List (List ℕ)) : Type 0 where
  pub stage : List (List ℕ)
  pub waiting : List (List ℕ)
  pub back : List (List ℕ)
  pub is : lines ≡ stage ++ (waiting ++ back)
  pub far : AreStageLines name kept stage
  pub open_set : AreWaitingLines name (set_at kept.stage) kept.waiting waiting
  pub undo : AreUndoLines name (left_at kept.stage (length kept.members)) kept.members back

-- ---- texts

-- the lines are those of what the text holds; where it has a fault there are none
abbrev pub AreOf : {A : Type 0} → (Holds : A → Type 0) → (Are : A → List (List ℕ) → Type 0) → (Faulty : Type 0) → List (List ℕ) → Type 0
AreOf {A} Holds Are Faulty lines = ((it : A) × Holds it × Are it lines) ⊎ (Faulty × (lines ≡ []))

-- the lines in words of a text of this form, in a file of this name
abbrev pub AreWords : TextForm → (name text : List ℕ) → List (List ℕ) → Type 0
AreWords looks.Undo name text =
    AreOf (λ (list : UndoList). IsTextOf text list) (λ list. AreUndoLines name (length list.requests.members) list.requests.members) ((line : ℕ) × IsFirstBad text line)
AreWords looks.Journal name text =
    AreOf (λ (kept : Kept). IsTextOfJournal text kept) (λ kept. AreJournalLines name kept) ((line : ℕ) × IsFirstBadOfJournal text line)
AreWords looks.Plan name text =
    AreOf (λ (plan : Plan). ReadsPlan text (Ok plan)) (λ plan. AreStepLines name plan.steps) ((why : PlanFault) × ReadsPlan text (Err why))
AreWords _ name text = λ lines. lines ≡ []

-- the text ends with such lines
pub record EndsInWords (form : TextForm) (name file text : List ℕ) : Type 0 where
  pub front : List ℕ
  pub words : Tells (AreWords form name file) front text
