-- What replies to a Get show together.
use Rattle.std.proofs.Common.{◌≡◌, ℕ, ◌+◌, ◌<◌, if◌then◌else◌, List, [], ◌∷◌, ◌++◌, length, sym, ◌∙◌, ap, arith}
use Rattle.std.specs.List.{flat_map}
use Rattle.std.proofs.lemmas.List.{append-nil}
use Rattle.std.proofs.lemmas.List.Concat.{flat_map-append}
use Rattle.bios_attr.specs.EntryParts.{entry_in, no_handle, start_and_end, ends, joined}
use Rattle.undo_core.specs.Joining.{whole_of, AreJoined}
use Rattle.undo_core.proofs.Going.{one_more, last_is}

-- several show the whole entry, where the last of them is its last part
pub joined_many : (before : List (List ℕ)) (body : List ℕ) (parts : ℕ) → length before ≡ parts → 0 < parts
    → joined (before ++ body ∷ []) ≡ (if ends (parts + 1) body then whole_of (before ++ body ∷ []) else [])
joined_many [] body parts many some = absurd (omega (arith, many, some))
joined_many (first ∷ []) body parts many some = λ i. if ends (one_more (first ∷ []) body parts many i) body then whole_of (first ∷ body ∷ []) else []
joined_many (first ∷ second ∷ before) body parts many some =
    λ i. if ends (one_more (first ∷ second ∷ before) body parts many i) (last_is (first ∷ second ∷ before) body i) then whole_of (first ∷ second ∷ (before ++ body ∷ [])) else []

-- the data with one part more
pub whole_more : (bytes : List ℕ) (before : List (List ℕ)) (body : List ℕ) → 0 < length before → AreJoined bytes before → bytes ++ entry_in body ≡ whole_of (before ++ body ∷ [])
whole_more bytes [] body some is = absurd (omega (arith, some))
whole_more bytes (first ∷ before) body some is =
    let parts : flat_map entry_in (first ∷ before) ++ entry_in body ≡ flat_map entry_in ((first ∷ before) ++ body ∷ []) =
    ap (λ (l : List ℕ). flat_map entry_in (first ∷ before) ++ l) (sym (append-nil (entry_in body))) ∙ sym (flat_map-append entry_in (first ∷ before) (body ∷ [])) in
    ap (λ (l : List ℕ). l ++ entry_in body) is ∙ ap (λ (l : List ℕ). no_handle ++ start_and_end ∷ l) parts

-- data that are those of all replies are theirs
pub are_joined : (bytes : List ℕ) (before : List (List ℕ)) (body : List ℕ) → bytes ≡ whole_of (before ++ body ∷ []) → AreJoined bytes (before ++ body ∷ [])
are_joined bytes [] body is = is
are_joined bytes (first ∷ before) body is = is
