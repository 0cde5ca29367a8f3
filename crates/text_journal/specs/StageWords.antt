-- The words of stages.
use Rattle.std.specs.Prelude.{ℕ, List, codes}
use Rattle.model_undo.specs.declared.phase.Why.TheVariants as why
use Rattle.undo_plans.specs.declared.kept_stage.KeptTask.TheVariants as task
use Rattle.undo_plans.specs.declared.kept_stage.KeptStage.{KeptStage}
use Rattle.undo_plans.specs.declared.kept_stage.KeptStage.TheVariants as stage
use Rattle.text_journal.specs.declared.stage.StageWord.{StageWord}
use Rattle.text_journal.specs.declared.stage.StageWord.TheVariants as word

-- the word of a stage
abbrev pub word_of : KeptStage → StageWord
word_of stage.Fresh = word.Fresh
word_of (stage.Open (task.Get step) part) = word.Get
word_of (stage.Open (task.Set step) part) = word.Set
word_of (stage.Open (task.Undo step) part) = word.Undo
word_of stage.Done = word.Done
word_of (stage.Halted step why.Stop) = word.Halted
word_of (stage.Halted step (why.Refused code)) = word.SetRefused
word_of (stage.Halted step why.NotRestorable) = word.NotRestorable
word_of (stage.Halted step (why.GetRefused code)) = word.GetRefused
word_of stage.Undone = word.Undone
word_of (stage.UndoRefused step code) = word.UndoRefused

-- how it is spelt, with what stands around it
abbrev pub spelt : StageWord → List ℕ
spelt word.Fresh = codes "stage fresh "
spelt word.Get = codes "stage get "
spelt word.Set = codes "stage set "
spelt word.Undo = codes "stage undo "
spelt word.Done = codes "stage done "
spelt word.Halted = codes "stage halted "
spelt word.SetRefused = codes "stage set-refused "
spelt word.NotRestorable = codes "stage not-restorable "
spelt word.GetRefused = codes "stage get-refused "
spelt word.Undone = codes "stage undone "
spelt word.UndoRefused = codes "stage undo-refused "
