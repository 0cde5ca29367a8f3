-- Frames that are sent one after another.
use Rattle.std.proofs.Common.{◌≡◌, ◌++◌, ◌∷◌, [], map, List, sym, ◌∙◌, ap}
use Rattle.std.proofs.lemmas.List.{map-append, append_assoc}

-- one more is sent
pub one_more : {A B : Type 0} (f : A → B) (old : List B) (before more : List A) (x : A) → more ≡ before ++ x ∷ []
    → (old ++ map f before) ++ f x ∷ [] ≡ old ++ map f more
one_more f old before more x is =
    append_assoc old (map f before) (f x ∷ [])
    ∙ ap (λ fs. old ++ fs) (sym (map-append f before (x ∷ [])))
    ∙ ap (λ fs. old ++ map f fs) (sym is)
