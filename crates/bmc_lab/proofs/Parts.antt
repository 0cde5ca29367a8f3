-- The requests for parts, and what parts show together.
use Rattle.std.proofs.Common.{◌≡◌, ◌≢◌, ℕ, suc, ◌-◌, List, [], ◌∷◌, ◌++◌, length, map, Option, Some, None, Bool, true, false, refl, sym, ◌∙◌, ap, subst, arith}
use Rattle.std.specs.Prelude.{slice_get, if◌then◌else◌}
use Rattle.std.proofs.lemmas.List.{length-map}
use Rattle.std.proofs.lemmas.Option.{same_Some}
use Rattle.record_base.specs.declared.key.Key.{Key}
use Rattle.record_base.specs.declared.key.Key.TheVariants as key
use Rattle.record_base.specs.declared.message.Asked.{Asked}
use Rattle.record_base.specs.declared.message.Answered.{Answered}
use Rattle.bios_attr.specs.EntryParts.{joined, goes_on, ends, last_of}
use Rattle.record_kinds.specs.Series.{Reads, next_after}
use Rattle.bmc_lab.specs.Answers.{body_of, next_behind, whole_of}

-- ---- the next part

nothing_either : (b : Bool) (o : Option Asked) → o ≡ None → o ≡ (if b then None else None)
nothing_either true o is = is
nothing_either false o is = is

-- the request behind some replies is the one behind so many of which this is the last
pub last_alone : (key : Key) (bodies : List (List ℕ)) → next_after (Reads key) bodies ≡ next_behind key (length bodies) (last_of bodies)
last_alone (key.BiosAttribute handle) bodies = refl
last_alone _ bodies = nothing_either (goes_on (length bodies) (last_of bodies)) None refl

last_pushed : (bodies : List (List ℕ)) (body : List ℕ) → last_of (bodies ++ body ∷ []) ≡ body
last_pushed [] body = refl
last_pushed (first ∷ []) body = refl
last_pushed (first ∷ second ∷ bodies) body = last_pushed (second ∷ bodies) body

pub next_part : (key : Key) (bodies : List (List ℕ)) (body : List ℕ) (count : ℕ) → length (bodies ++ body ∷ []) ≡ count → next_after (Reads key) (bodies ++ body ∷ []) ≡ next_behind key count body
next_part key bodies body count many =
    last_alone key (bodies ++ body ∷ []) ∙ ap (λ (n : ℕ). next_behind key n (last_of (bodies ++ body ∷ []))) many ∙ ap (next_behind key count) (last_pushed bodies body)

-- ---- what replies show

-- the last of the replies
last_there : (replies : List Answered) (last : Answered) → slice_get replies (length replies - 1) ≡ Some last → last_of (map body_of replies) ≡ body_of last
last_there [] last is = cc
last_there (only ∷ []) last is = ap body_of (same_Some only last is)
last_there (first ∷ second ∷ replies) last is =
    let place : length (first ∷ second ∷ replies) - 1 ≡ suc (length (second ∷ replies) - 1) = omega arith in
    last_there (second ∷ replies) last (subst (λ (n : ℕ). slice_get (first ∷ second ∷ replies) n ≡ Some last) place is)

-- what is joined of other than one reply
joined_by : (replies : List Answered) → length replies ≢ 1 → joined (map body_of replies) ≡ (if ends (length (map body_of replies)) (last_of (map body_of replies)) then whole_of (map body_of replies) else [])
joined_by [] several = refl
joined_by (only ∷ []) several = absurd (several refl)
joined_by (first ∷ second ∷ replies) several = refl

pub joined_last : (replies : List Answered) (last : Answered) → length replies ≢ 1 → slice_get replies (length replies - 1) ≡ Some last
    → joined (map body_of replies) ≡ (if ends (length replies) (body_of last) then whole_of (map body_of replies) else [])
joined_last replies last several is =
    joined_by replies several
    ∙ (λ i. if ends (length-map replies body_of i) (last_there replies last is i) then whole_of (map body_of replies) else [])

-- what is shown where the last of them isn't the last part, and where it is
pub joined_none : (replies : List Answered) (last : Answered) (is_end : Bool) (items : List ℕ) → length replies ≢ 1 → slice_get replies (length replies - 1) ≡ Some last
    → is_end ≡ ends (length replies) (body_of last) → is_end ≡ false → items ≡ [] → items ≡ joined (map body_of replies)
joined_none replies last is_end items several there is more empty =
    let ended : ends (length replies) (body_of last) ≡ false = sym is ∙ more in
    empty ∙ sym (joined_last replies last several there ∙ (λ i. if ended i then whole_of (map body_of replies) else []))

pub joined_whole : (replies : List Answered) (last : Answered) (is_end : Bool) (items : List ℕ) → length replies ≢ 1 → slice_get replies (length replies - 1) ≡ Some last
    → is_end ≡ ends (length replies) (body_of last) → is_end ≡ true → items ≡ whole_of (map body_of replies) → items ≡ joined (map body_of replies)
joined_whole replies last is_end items several there is done whole =
    let ended : ends (length replies) (body_of last) ≡ true = sym is ∙ done in
    whole ∙ sym (joined_last replies last several there ∙ (λ i. if ended i then whole_of (map body_of replies) else []))
