-- The lines of a journal: how far its manager is, and the request that waits.
use Rattle.std.proofs.Common.{◌≡◌, ◌++◌, ◌∷◌, [], ◌∙◌, ℕ, List, Option, Some, None, ap, refl, slice_get, subst, sym}
use Rattle.std.proofs.lemmas.List.{append_assoc}
use Rattle.text_lines.specs.Cuts.{ended}
use Rattle.record_base.specs.declared.message.Asked.{Asked}
use Rattle.record_words.specs.RequestWords.{IsUndoWords}
use Rattle.undo_plans.specs.KeptManager.{Kept, waiting_at}
use Rattle.undo_plans.specs.declared.kept_stage.KeptTask.TheVariants.{Get, Set, Undo}
use Rattle.undo_plans.specs.declared.kept_stage.KeptStage.{KeptStage}
use Rattle.undo_plans.specs.declared.kept_stage.KeptStage.TheVariants.{Fresh, Open, Done, Halted, Undone, UndoRefused}
use Rattle.text_check.specs.Staged.{AreWaitingLines, IsBack, IsOf, set_at, undo_at, waiting_line}

same_step : {a b : ℕ} → (let x : Option ℕ = Some a in x) ≡ Some b → a ≡ b
same_step e = cc e

none_there : {step : ℕ} → (let x : Option ℕ = None in x) ≡ Some step → ⊥
none_there e = cc e

-- what is said of a step whose undo is open, or was refused, is what its request puts back
pub back_is_of : (kept : Kept) (stage : KeptStage) (step : ℕ) (of : List ℕ) → undo_at stage ≡ Some step → IsBack (slice_get kept.members step) of → IsOf kept stage of
back_is_of kept (Open (Undo own) part) step of at is = subst (λ (n : ℕ). IsBack (slice_get kept.members n) of) (sym (same_step at)) is
back_is_of kept (UndoRefused own code) step of at is = subst (λ (n : ℕ). IsBack (slice_get kept.members n) of) (sym (same_step at)) is
back_is_of kept Fresh step of at is = absurd (none_there at)
back_is_of kept (Open (Get own) part) step of at is = absurd (none_there at)
back_is_of kept (Open (Set own) part) step of at is = absurd (none_there at)
back_is_of kept Done step of at is = absurd (none_there at)
back_is_of kept (Halted own why) step of at is = absurd (none_there at)
back_is_of kept Undone step of at is = absurd (none_there at)

-- the request that waits is told where a Set is open
pub waiting_is : (name : List ℕ) (set : Option ℕ) (waiting : Option Asked) (step : ℕ) (asked : Asked) (words : List ℕ) → set ≡ Some step → waiting ≡ Some asked → IsUndoWords words asked
    → AreWaitingLines name set waiting (waiting_line name step words ∷ [])
waiting_is name set waiting step asked words at there said =
    subst (λ (s : Option ℕ). AreWaitingLines name s waiting (waiting_line name step words ∷ [])) (sym at)
    (subst (λ (w : Option Asked). AreWaitingLines name (Some step) w (waiting_line name step words ∷ [])) (sym there) (words, said, refl))

-- and is that of what a journal keeps
pub waits_so : (name : List ℕ) (stage : KeptStage) (waiting : Option Asked) (lines : List (List ℕ)) → AreWaitingLines name (set_at stage) waiting lines
    → AreWaitingLines name (set_at stage) (waiting_at stage waiting) lines
waits_so name Fresh waiting lines are = are
waits_so name (Open (Get step) part) waiting lines are = are
waits_so name (Open (Set step) part) waiting lines are = are
waits_so name (Open (Undo step) part) waiting lines are = are
waits_so name Done waiting lines are = are
waits_so name (Halted step why) waiting lines are = are
waits_so name Undone waiting lines are = are
waits_so name (UndoRefused step code) waiting lines are = are

-- a line of five parts, as it is written and as it is ended
pub five_parts : (a b c d e : List ℕ) → a ++ (b ++ (c ++ (d ++ (e ++ 10 ∷ [])))) ≡ ended (a ++ (b ++ (c ++ (d ++ e))))
five_parts a b c d e =
    sym (append_assoc a (b ++ (c ++ (d ++ e))) (10 ∷ []) ∙ ap (λ (l : List ℕ). a ++ l) (append_assoc b (c ++ (d ++ e)) (10 ∷ [])
    ∙ ap (λ (l : List ℕ). b ++ l) (append_assoc c (d ++ e) (10 ∷ []) ∙ ap (λ (l : List ℕ). c ++ l) (append_assoc d e (10 ∷ [])))))
