-- The line of the stage says one stage.
use Rattle.std.proofs.Common.{◌≡◌, ◌==◌, if◌then◌else◌, ℕ, List, [], ◌++◌, get_or, refl, sym, ◌∙◌, ap, subst, arith}
use Rattle.text_lines.specs.Cuts.{LacksByte}
use Rattle.model_undo.specs.declared.phase.Why.TheVariants as why
use Rattle.undo_plans.specs.declared.kept_stage.KeptTask.TheVariants as task
use Rattle.undo_plans.specs.declared.kept_stage.KeptStage.{KeptStage}
use Rattle.undo_plans.specs.declared.kept_stage.KeptStage.TheVariants as stage
use Rattle.text_journal.specs.declared.stage.StageWord.{StageWord}
use Rattle.text_journal.specs.declared.stage.StageWord.TheVariants as word
use Rattle.text_journal.specs.StageWords.{word_of, spelt}
use Rattle.text_journal.specs.JournalLines.{numbers_line, stage_step, stage_part, stage_line, IsSpelt}
use Rattle.text_journal.proofs.Lines.{lacks_by_test, lacks_both, numbers_lack, same_behind, same_numbers}

-- the word that a text begins with, by its letters behind the first six
abbrev word_in : List ℕ → StageWord
word_in text =
    if get_or text 6 0 == 102 then word.Fresh
    else (if get_or text 6 0 == 103 then (if get_or text 9 0 == 32 then word.Get else word.GetRefused)
    else (if get_or text 6 0 == 115 then (if get_or text 9 0 == 32 then word.Set else word.SetRefused)
    else (if get_or text 6 0 == 117 then (if get_or text 10 0 == 32 then word.Undo else (if get_or text 10 0 == 110 then word.Undone else word.UndoRefused))
    else (if get_or text 6 0 == 100 then word.Done
    else (if get_or text 6 0 == 104 then word.Halted else word.NotRestorable)))))

word_is : (w : StageWord) (rest : List ℕ) → word_in (spelt w ++ rest) ≡ w
word_is word.Fresh rest = refl
word_is word.Get rest = refl
word_is word.Set rest = refl
word_is word.Undo rest = refl
word_is word.Done rest = refl
word_is word.Halted rest = refl
word_is word.SetRefused rest = refl
word_is word.NotRestorable rest = refl
word_is word.GetRefused rest = refl
word_is word.Undone rest = refl
word_is word.UndoRefused rest = refl

-- a text begins with one word
pub one_word : (a b : StageWord) (text rest more : List ℕ) → text ≡ spelt a ++ rest → text ≡ spelt b ++ more → a ≡ b
one_word a b text rest more e f = sym (word_is a rest) ∙ ap word_in (sym e ∙ f) ∙ word_is b more

pub words_lack : (w : StageWord) → LacksByte 10 (spelt w)
words_lack word.Fresh = lacks_by_test 10 (spelt word.Fresh) refl
words_lack word.Get = lacks_by_test 10 (spelt word.Get) refl
words_lack word.Set = lacks_by_test 10 (spelt word.Set) refl
words_lack word.Undo = lacks_by_test 10 (spelt word.Undo) refl
words_lack word.Done = lacks_by_test 10 (spelt word.Done) refl
words_lack word.Halted = lacks_by_test 10 (spelt word.Halted) refl
words_lack word.SetRefused = lacks_by_test 10 (spelt word.SetRefused) refl
words_lack word.NotRestorable = lacks_by_test 10 (spelt word.NotRestorable) refl
words_lack word.GetRefused = lacks_by_test 10 (spelt word.GetRefused) refl
words_lack word.Undone = lacks_by_test 10 (spelt word.Undone) refl
words_lack word.UndoRefused = lacks_by_test 10 (spelt word.UndoRefused) refl

-- ---- a stage by its word and its numbers

abbrev pub stage_named : StageWord → (step part : ℕ) → KeptStage
stage_named word.Fresh step part = stage.Fresh
stage_named word.Get step part = stage.Open (task.Get step) part
stage_named word.Set step part = stage.Open (task.Set step) part
stage_named word.Undo step part = stage.Open (task.Undo step) part
stage_named word.Done step part = stage.Done
stage_named word.Halted step part = stage.Halted step why.Stop
stage_named word.SetRefused step part = stage.Halted step (why.Refused part)
stage_named word.NotRestorable step part = stage.Halted step why.NotRestorable
stage_named word.GetRefused step part = stage.Halted step (why.GetRefused part)
stage_named word.Undone step part = stage.Undone
stage_named word.UndoRefused step part = stage.UndoRefused step part

pub named_again : (s : KeptStage) → stage_named (word_of s) (stage_step s) (stage_part s) ≡ s
named_again stage.Fresh = refl
named_again (stage.Open (task.Get step) part) = refl
named_again (stage.Open (task.Set step) part) = refl
named_again (stage.Open (task.Undo step) part) = refl
named_again stage.Done = refl
named_again (stage.Halted step why.Stop) = refl
named_again (stage.Halted step (why.Refused code)) = refl
named_again (stage.Halted step why.NotRestorable) = refl
named_again (stage.Halted step (why.GetRefused code)) = refl
named_again stage.Undone = refl
named_again (stage.UndoRefused step code) = refl

-- so it is the only one of them
pub stage_is : (s : KeptStage) (w : StageWord) (step part : ℕ) → word_of s ≡ w → stage_step s ≡ step → stage_part s ≡ part → s ≡ stage_named w step part
stage_is s w step part a b c = sym (named_again s) ∙ (λ i. stage_named (a i) (b i) (c i))

pub stage_lacks : (s : KeptStage) → IsSpelt s → LacksByte 10 (stage_line s)
stage_lacks s is = lacks_both 10 (spelt (word_of s)) (numbers_line [] (stage_step s) (stage_part s)) (words_lack (word_of s)) (numbers_lack (stage_step s) (stage_part s) is.step (omega (arith, is.part)))

-- what stands behind the word of two lines that are the same
pub same_rest : (v w : StageWord) (a b c d : ℕ) → v ≡ w → numbers_line (spelt v) a b ≡ numbers_line (spelt w) c d → numbers_line [] a b ≡ numbers_line [] c d
same_rest v w a b c d same e =
    same_behind (spelt w) _ _ (subst (λ (x : StageWord). numbers_line (spelt x) a b ≡ numbers_line (spelt w) c d) same e)

pub one_stage : (s t : KeptStage) → IsSpelt s → IsSpelt t → stage_line s ≡ stage_line t → s ≡ t
one_stage s t p q e =
    let words : word_of s ≡ word_of t = one_word (word_of s) (word_of t) (stage_line s) _ _ refl e in
    let rest = same_rest (word_of s) (word_of t) _ _ _ _ words e in
    let numbers = same_numbers _ _ _ _ p.step (omega (arith, p.part)) q.step (omega (arith, q.part)) rest in
    stage_is s (word_of t) (stage_step t) (stage_part t) words numbers.0 numbers.1 ∙ named_again t
