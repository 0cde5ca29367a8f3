-- What the stages that are entered need: a list has something at each of its places, and no reply came before a task's first request.
use Rattle.std.proofs.Common.{◌≡◌, ℕ, ◌<◌, List, [], ◌∷◌, length, Option, refl, sym, ◌∙◌, ap, subst, arith}
use Rattle.std.specs.Prelude.{slice_get, IsSome}
use Rattle.std.proofs.lemmas.Option.{slice_get-get_or}
use Rattle.undo_core.specs.Joining.{most_joined}
use Rattle.undo_core.specs.Bounds.{parts_at, most_replied}
use Rattle.undo_core.specs.declared.stage.Task.TheVariants.{Gets, Sets, Undoes}
use Rattle.undo_core.specs.declared.stage.Stage.{Stage}
use Rattle.undo_core.specs.declared.stage.Stage.TheVariants.{AtStart, Opened, AtEnd, AtHalt, AtUndone, AtRefused}

pub is_there : {A : Type 0} (xs : List A) (k : ℕ) (found : Option A) → found ≡ slice_get xs k → k < length xs → IsSome found
is_there [] k found is below = absurd (omega (arith, below))
is_there (x ∷ xs) k found is below = subst IsSome (sym (is ∙ slice_get-get_or (x ∷ xs) k x below)) refl

pub none_replied : (entered : Stage) → parts_at entered ≡ 0 → most_replied entered ≡ most_joined 0
none_replied AtStart none = refl
none_replied (Opened heeded (Gets step) parts asked) none = ap most_joined none
none_replied (Opened heeded (Sets step) parts asked) none = refl
none_replied (Opened heeded (Undoes step) parts asked) none = refl
none_replied AtEnd none = refl
none_replied (AtHalt step why) none = refl
none_replied AtUndone none = refl
none_replied (AtRefused step code) none = refl
