-- How far a manager is, in words.
use Rattle.std.specs.Prelude.{◌≡◌, ℕ, zero, suc, List, [], ◌∷◌, ◌++◌, Option, None, Some, nat_lt, slice_get, if◌then◌else◌, codes}
use Rattle.std.specs.Fmt.{decimal}
use Rattle.record_base.specs.declared.op.Op.{Op}
use Rattle.record_base.specs.declared.message.Asked.{Asked}
use Rattle.record_kinds.specs.Limits.{key_of}
use Rattle.model_undo.specs.PhaseNames.{two_digits}
use Rattle.model_undo.specs.declared.phase.Why.{Why}
use Rattle.model_undo.specs.declared.phase.Why.TheVariants as why
use Rattle.undo_plans.specs.KeptManager.{Kept}
use Rattle.undo_plans.specs.declared.kept_stage.KeptTask.{KeptTask}
use Rattle.undo_plans.specs.declared.kept_stage.KeptTask.TheVariants.{Get, Set, Undo}
use Rattle.undo_plans.specs.declared.kept_stage.KeptStage.{KeptStage}
use Rattle.undo_plans.specs.declared.kept_stage.KeptStage.TheVariants.{Fresh, Open, Done, Halted, Undone, UndoRefused}
use Rattle.record_words.specs.declared.parts.Way.TheVariants.{There}
use Rattle.record_words.specs.NameWords.{record_words}
use Rattle.record_words.specs.OpWords.{op_words, words_of}
use Rattle.record_words.specs.RequestWords.{IsUndoWords, undo_words_of}
use Rattle.text_check.specs.declared.staged.StepWords.{StepWords}
use Rattle.text_check.specs.declared.staged.StepWords.TheVariants as said

-- ---- what is said of a step

-- the record that a step gets, and what it makes of one, where there is such a step
abbrev pub got : Option Op → List ℕ
got None = []
got (Some op) = codes ", " ++ record_words (key_of op)

abbrev pub made : Option Op → List ℕ
made None = []
made (Some op) = codes ", " ++ op_words There op None

-- what a request puts back, where there is such a request
abbrev pub IsBack : Option Asked → List ℕ → Type 0
IsBack None of = of ≡ []
IsBack (Some asked) of = (words : List ℕ) × IsUndoWords words asked × (of ≡ codes ", " ++ words)

-- of the step at which the manager is: the record that it gets, what it makes of one, or what the request puts back that undoes it
abbrev pub IsOf : Kept → KeptStage → List ℕ → Type 0
IsOf kept (Open (Get step) part) of = of ≡ got (slice_get kept.plan step)
IsOf kept (Open (Set step) part) of = of ≡ made (slice_get kept.plan step)
IsOf kept (Open (Undo step) part) of = IsBack (slice_get kept.members step) of
IsOf kept (Halted step why) of = of ≡ made (slice_get kept.plan step)
IsOf kept (UndoRefused step code) of = IsBack (slice_get kept.members step) of
IsOf kept _ of = of ≡ []

-- the step whose undo is open, or was refused
abbrev pub undo_at : KeptStage → Option ℕ
undo_at (Open (Undo step) part) = Some step
undo_at (UndoRefused step code) = Some step
undo_at _ = None

-- how it is written
abbrev pub step_words : StepWords → List ℕ
step_words said.Nothing = []
step_words (said.Record name) = codes ", " ++ record_words name.0
step_words (said.Op words) = codes ", " ++ words_of words
step_words (said.Back words) = codes ", " ++ undo_words_of words

-- ---- stages

-- a task
abbrev pub task_words : KeptTask → List ℕ
task_words (Get step) = codes "Get of step " ++ decimal step
task_words (Set step) = codes "Set of step " ++ decimal step
task_words (Undo step) = codes "undo of step " ++ decimal step

-- how many of its requests were answered, where one was
abbrev pub part_words : (part : ℕ) → List ℕ
part_words zero = []
part_words (suc part) = codes " (" ++ (decimal (suc part) ++ codes " of its requests answered)")

-- why a plan halted
abbrev pub why_words : Why → List ℕ
why_words why.Stop = codes "a stop came before it"
why_words (why.Refused code) = codes "its Set was refused, " ++ (two_digits code ++ codes "h")
why_words why.NotRestorable = codes "no Set brings back what its Get showed"
why_words (why.GetRefused code) = codes "its Get was refused, " ++ (two_digits code ++ codes "h")

-- how far the manager is, with what is said of the step
abbrev pub stage_words : KeptStage → (of : List ℕ) → List ℕ
stage_words Fresh of = codes "fresh"
stage_words (Open task part) of = codes "open: " ++ (task_words task ++ (of ++ part_words part))
stage_words Done of = codes "done"
stage_words (Halted step why) of = codes "halted at step " ++ (decimal step ++ (of ++ (codes ": " ++ why_words why)))
stage_words Undone of = codes "undone"
stage_words (UndoRefused step code) of = codes "refused: undo of step " ++ (decimal step ++ (of ++ (codes ": " ++ (two_digits code ++ codes "h"))))

-- the line that says so, in a file of this name
abbrev pub stage_line : (name : List ℕ) → KeptStage → (of : List ℕ) → List ℕ
stage_line name stage of = name ++ (codes ": " ++ stage_words stage of)

abbrev pub IsStageLine : (name : List ℕ) → Kept → (line : List ℕ) → Type 0
IsStageLine name kept line = (of : List ℕ) × IsOf kept kept.stage of × (line ≡ stage_line name kept.stage of)

-- the lines are that one alone
abbrev pub AreStageLines : (name : List ℕ) → Kept → List (List ℕ) → Type 0
AreStageLines name kept lines = (line : List ℕ) × IsStageLine name kept line × (lines ≡ line ∷ [])

-- ---- what is taken back

-- the line of the request that undoes the step whose Set is open
abbrev pub waiting_line : (name : List ℕ) → (step : ℕ) → (words : List ℕ) → List ℕ
waiting_line name step words = name ++ (codes ": undo of step " ++ (decimal step ++ (codes " if its Set was carried out: " ++ words)))

-- the step whose Set is open
abbrev pub set_at : KeptStage → Option ℕ
set_at (Open (Set step) part) = Some step
set_at _ = None

-- there is such a line where a Set is open, and a request waits
abbrev pub AreWaitingLines : (name : List ℕ) → (set : Option ℕ) → (waiting : Option Asked) → List (List ℕ) → Type 0
AreWaitingLines name (Some step) (Some asked) lines = (words : List ℕ) × IsUndoWords words asked × (lines ≡ waiting_line name step words ∷ [])
AreWaitingLines name _ _ lines = lines ≡ []

-- of so many the first up to this place
abbrev pub up_to : (place count : ℕ) → ℕ
up_to place count = if nat_lt place count then suc place else count

-- how many of so many requests that undo are still to be sent: those up to the one that is open or was refused, and none once all were
abbrev pub left_at : KeptStage → (count : ℕ) → ℕ
left_at (Open (Undo step) part) count = up_to step count
left_at Undone count = 0
left_at (UndoRefused step code) count = up_to step count
left_at _ count = count
