-- Frames that came, event by event.
use Rattle.std.proofs.Common.{◌≡◌, ℕ, ◌+◌, ◌<◌, Bool, true, false, ◌||◌, List, [], ◌∷◌, ◌++◌, length, take, get_or, refl, sym, ◌∙◌, ap}
use Rattle.std.proofs.lemmas.List.{take_more}
use Rattle.std.proofs.lemmas.List.Folds.{list_any-append}
use Rattle.lab_run.specs.declared.note.Note.{Note}
use Rattle.app_play.specs.declared.arrivals.Arrivals.{Arrivals}
use Rattle.app_play.specs.Arrivals.{delivers, came_at, HoldsNotes}

last_first : (a b : Bool) → (a || (b || false)) ≡ (b || a)
last_first true true = refl
last_first true false = refl
last_first false true = refl
last_first false false = refl

-- one event more
pub one_more_came : (notes : List Note) (i : ℕ) (note : Note) (number : ℕ) → i < length notes → note ≡ get_or notes i note
    → came_at (take (i + 1) notes) number ≡ (delivers number note.event.now || came_at (take i notes) number)
one_more_came notes i note number within is =
    ap (λ (ns : List Note). came_at ns number) (take_more notes i note within ∙ ap (λ (n : Note). take i notes ++ n ∷ []) (sym is))
    ∙ list_any-append (λ (n : Note). delivers number n.event.now) (take i notes) (note ∷ [])
    ∙ last_first (came_at (take i notes) number) (delivers number note.event.now)

-- and what is held of it
pub holds_more : (notes : List Note) (i : ℕ) (note : Note) (old new : Arrivals) → i < length notes → note ≡ get_or notes i note
    → HoldsNotes old (take i notes) → ((n : ℕ) → get_or new.came.items n false ≡ (delivers n note.event.now || get_or old.came.items n false)) → HoldsNotes new (take (i + 1) notes)
holds_more notes i note old new within is held added number =
    added number ∙ ap (λ (b : Bool). delivers number note.event.now || b) (held number) ∙ sym (one_more_came notes i note number within is)
