-- How many records pass a test, in whatever order they are listed.
use Rattle.std.proofs.Common.{◌≡◌, ◌∙◌, ℕ, Bool, true, false, cond, ◌||◌, List, [], ◌∷◌, length, filter, find, Option, Some, None, option_map, Decides, arith, refl, sym, ap, subst}
use Rattle.std.specs.List.{AllByRecursion, IsDistinct}
use Rattle.std.specs.Cmp.{IsEquivalence, eq_by_cmp_equiv}
use Rattle.std.specs.Map.{keys_of}
use Rattle.std.specs.Set.{is_member}
use Rattle.std.proofs.lemmas.List.{length-map, get_or-map}
use Rattle.std.proofs.lemmas.Map.Keys.{IsDistinct-head, IsDistinct-tail}
use Rattle.std.proofs.lemmas.Map.Made.{length-from_same_keys, IsDistinct-from_AllPairs, IsDistinct-keys_filter}
use Rattle.record_base.specs.declared.key.Key.{Key}
use Rattle.record_base.specs.Keys.{same_key}
use Rattle.record_base.specs.KeyLaws.{key_total, exact_key, same_key_self}
use Rattle.cfg_records.specs.Records.{Records, Pair, value_of, records_of, KeysDiffer}

-- keys are compared by an equivalence
keys_equiv : IsEquivalence same_key
keys_equiv = eq_by_cmp_equiv key_total

-- which says whether they are one
key_decides : (a b : Key) → Decides (same_key a b) (a ≡ b)
key_decides a b = (exact_key a b, λ same. subst (λ (k : Key). same_key a k ≡ true) same (same_key_self a))

-- keys that differ are distinct by this test
distinct : (pairs : List Pair) → KeysDiffer pairs → IsDistinct same_key (keys_of pairs)
distinct pairs differ = IsDistinct-from_AllPairs key_decides (keys_of pairs) (λ i j d before inside same.
    let n : length (keys_of pairs) ≡ length pairs = length-map pairs (λ (pair : Pair). pair.0) in
    let p : Pair = (d, []) in
    differ i j p before (omega arith)
    (sym (get_or-map (λ (pair : Pair). pair.0) pairs i p d (omega arith)) ∙ same ∙ get_or-map (λ (pair : Pair). pair.0) pairs j p d (omega arith)))

-- a key that differs from each of these has no record among theirs
absent : (pairs : List Pair) (key : Key) → AllByRecursion (λ (other : Key). same_key key other ≡ false) (keys_of pairs) → records_of pairs key ≡ None
absent [] key apart = refl
absent (p ∷ pairs) key apart =
    ap (λ (b : Bool). option_map value_of (cond b (Some p) (find (λ (pair : Pair). same_key pair.0 key) pairs))) (keys_equiv.symm p.0 key ∙ apart.0)
    ∙ absent pairs key apart.1

module _ (test : Pair → Bool) where
  -- whether the record that a key has passes the test
  abbrev passes : Key → Option (List ℕ) → Bool
  passes key None = false
  passes key (Some value) = test (key, value)

  -- the keys of the records that pass, by what the records are
  passing : (pairs : List Pair) → IsDistinct same_key (keys_of pairs) → (key : Key) → is_member same_key (keys_of (filter test pairs)) key ≡ passes key (records_of pairs key)
  passing [] differ key = refl
  passing (p ∷ pairs) differ key = by (same_key p.0 key) refl (test p) refl (passing pairs (IsDistinct-tail same_key p.0 (keys_of pairs) differ) key)
    where
      none : p.0 ≡ key → records_of pairs key ≡ None
      none same = subst (λ (k : Key). records_of pairs k ≡ None) same (absent pairs p.0 (IsDistinct-head same_key p.0 (keys_of pairs) differ))

      at_key : p.0 ≡ key → test (key, p.1) ≡ test p
      at_key same = sym (ap (λ (k : Key). test (k, p.1)) same)

      first_or : (b : Bool) → same_key p.0 key ≡ b
          → is_member same_key (keys_of (p ∷ filter test pairs)) key ≡ (b || is_member same_key (keys_of (filter test pairs)) key)
      first_or b is = ap (λ (first : Bool). first || is_member same_key (keys_of (filter test pairs)) key) (keys_equiv.symm key p.0 ∙ is)

      by : (b : Bool) → same_key p.0 key ≡ b → (t : Bool) → test p ≡ t → is_member same_key (keys_of (filter test pairs)) key ≡ passes key (records_of pairs key)
          → is_member same_key (keys_of (cond t (p ∷ filter test pairs) (filter test pairs))) key
          ≡ passes key (option_map value_of (cond b (Some p) (find (λ (pair : Pair). same_key pair.0 key) pairs)))
      by true is true passed rest = first_or true is ∙ sym (at_key (exact_key p.0 key is) ∙ passed)
      by true is false failed rest = rest ∙ ap (passes key) (none (exact_key p.0 key is)) ∙ sym (at_key (exact_key p.0 key is) ∙ failed)
      by false is true passed rest = first_or false is ∙ rest
      by false is false failed rest = rest

-- records that are listed in two ways, each once, pass a test as often
pub same_count : (test : Pair → Bool) (pairs others : List Pair) → KeysDiffer pairs → KeysDiffer others → records_of pairs ≡ records_of others
    → length (filter test pairs) ≡ length (filter test others)
same_count test pairs others differ also same =
    let one = distinct pairs differ in
    let two = distinct others also in
    sym (length-map (filter test pairs) (λ (pair : Pair). pair.0))
    ∙ length-from_same_keys keys_equiv (keys_of (filter test pairs)) (keys_of (filter test others))
    (IsDistinct-keys_filter same_key test pairs one) (IsDistinct-keys_filter same_key test others two)
    (λ key. passing test pairs one key ∙ ap (λ (records : Records). passes test key (records key)) same ∙ sym (passing test others two key))
    ∙ length-map (filter test others) (λ (pair : Pair). pair.0)
