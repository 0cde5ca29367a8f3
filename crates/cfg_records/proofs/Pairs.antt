-- Records of pairs, as one pair after another is added.
use Rattle.std.proofs.Common.{◌≡◌, ℕ, ◌<◌, List, [], ◌∷◌, ◌++◌, length, get_or, take, Option, Some, None, Bool, true, false, cond, if◌then◌else◌, refl, ap, sym, ◌∙◌, subst, arith, get_or-take}
use Rattle.std.proofs.lemmas.List.{length-take}
use Rattle.std.specs.List.{find}
use Rattle.std.specs.Option.{option_map, option_or}
use Rattle.std.proofs.lemmas.List.Folds.{find-append}
use Rattle.record_base.specs.declared.key.Key.{Key}
use Rattle.record_base.specs.Keys.{same_key}
use Rattle.record_base.specs.KeyLaws.{exact_key, same_key_self}
use Rattle.cfg_records.specs.Records.{with_record, Pair, value_of, key_in, records_of, KeysDiffer}
use Rattle.record_base.proofs.Names.{NamesDiffer-push}
use Rattle.cfg_records.proofs.Searches.{find_none, find_some}

-- the pair has the key
abbrev pub has_key : Key → Pair → Bool
has_key key = λ pair. same_key pair.0 key

more_at : (found : Option Pair) (p : Pair) (b : Bool) → (b ≡ true → option_map value_of found ≡ None)
    → option_map value_of (option_or found (cond b (Some p) None)) ≡ (if b then Some p.1 else option_map value_of found)
more_at (Some q) p true new = let none : option_map value_of (Some q) ≡ None = new refl in cc
more_at (Some q) p false new = refl
more_at None p true new = refl
more_at None p false new = refl

-- a pair with a new key is a record more
pub records_of-push : (pairs : List Pair) (p : Pair) → records_of pairs p.0 ≡ None → records_of (pairs ++ p ∷ []) ≡ with_record (records_of pairs) p.0 p.1
records_of-push pairs p new = λ i key.
    (ap (option_map value_of) (find-append (has_key key) pairs (p ∷ [])) ∙ more_at (find (has_key key) pairs) p (same_key p.0 key) (λ same. subst (λ (k : Key). records_of pairs k ≡ None) (exact_key p.0 key same) new)) i

no_value : (found : Option Pair) → option_map value_of found ≡ None → found ≡ None
no_value None h = refl
no_value (Some q) h = cc

some_value : (found : Option Pair) (value : List ℕ) → option_map value_of found ≡ Some value → (q : Pair) × (found ≡ Some q)
some_value None value h = cc
some_value (Some q) value h = (q, refl)

true_not_false : (b : Bool) → b ≡ true → b ≡ false → ⊥
true_not_false b t f = cc

-- keys that differ go on to differ with a new one
pub KeysDiffer-push : (pairs : List Pair) (p : Pair) → KeysDiffer pairs → records_of pairs p.0 ≡ None → KeysDiffer (pairs ++ p ∷ [])
KeysDiffer-push pairs p differ new =
    NamesDiffer-push key_in pairs p differ
    (λ k d lt same. true_not_false _ (subst (λ (q : Key). same_key q p.0 ≡ true) (sym same) (same_key_self p.0)) (find_none (has_key p.0) pairs (no_value _ new) k d lt))

-- a key that an earlier pair has stands twice
pub KeysDiffer-twice : (pairs : List Pair) (i : ℕ) (p : Pair) (value : List ℕ) → i < length pairs → p ≡ get_or pairs i p → records_of (take i pairs) p.0 ≡ Some value → ¬ KeysDiffer pairs
KeysDiffer-twice pairs i p value inside is had differ =
    let found = some_value (find (has_key p.0) (take i pairs)) value had in
    let place = find_some (has_key p.0) (take i pairs) found.0 found.1 in
    let k : ℕ = place.0 in
    let before : k < i = omega (arith, place.1.inside, length-take i pairs) in
    let is_q : get_or pairs k p ≡ found.0 = sym (get_or-take i pairs k p before) ∙ place.1.is_it p in
    let one_key : found.0.0 ≡ p.0 = exact_key found.0.0 p.0 place.1.passes in
    differ k i p before inside (ap (λ (q : Pair). q.0) is_q ∙ one_key ∙ ap (λ (q : Pair). q.0) is)
