-- What a search finds among keys in their order, and what a key more does to them.
use Rattle.std.proofs.Common.{◌≡◌, ℕ, zero, suc, ◌+◌, ◌-◌, ◌<◌, inl, inr, List, [], ◌∷◌, length, get_or, Option, Some, None, Bool, true, false, cond, if◌then◌else◌, Result, Ok, Err, IfOk, IfErr, refl, sym, ◌∙◌, ap, subst, arith}
use Rattle.std.specs.List.{find, insert}
use Rattle.std.specs.Option.{option_map}
use Rattle.std.specs.Ordering.{is_eq, is_lt, ordering_reverse}
use Rattle.std.specs.declared.cmp.Ordering.{Ordering}
use Rattle.std.specs.declared.cmp.Ordering.TheVariants.{Less, Greater}
use Rattle.std.specs.List.Sorted.{IsSearchInRange, IsBinarySearchResult, IsSortedBy}
use Rattle.std.proofs.lemmas.Bool.{cases_order}
use Rattle.std.proofs.lemmas.List.Sorted.{searchable_from_sorted}
use Rattle.std.proofs.lemmas.List.{get_or_default}
use Rattle.std.proofs.lemmas.List.Edits.{length-insert, get_or-insert_below, get_or-insert_at, get_or-insert_above}
use Rattle.record_base.specs.declared.key.Key.{Key}
use Rattle.record_base.specs.Keys.{key_cmp, same_key}
use Rattle.record_base.specs.KeyLaws.{key_total, exact_key, same_key_self}
use Rattle.cfg_records.specs.SortedKeys.{Entry, key_of, offset_in, AreRising, IsAt, IsGapFor}

-- ---- the order of two keys, from the other side

reversed : (a b : Key) (r : Ordering) → key_cmp a b ≡ r → key_cmp b a ≡ ordering_reverse r
reversed a b r e = key_total.antisymm b a ∙ ap ordering_reverse e

-- ---- a search

sorted : (entries : List Entry) → AreRising entries → IsSortedBy (λ a b. is_lt (key_cmp (key_of a) (key_of b))) entries
sorted entries rising k d low high = ap is_lt (reversed (key_of (get_or entries k d)) (key_of (get_or entries (k + 1) d)) Less (rising k (k + 1) d (omega arith) high))

-- a search in halves ends at the key, or at the gap for it
pub searched : (entries : List Entry) (key : Key) → AreRising entries → (r : Result ℕ ℕ) → IsSearchInRange r (length entries) → IsBinarySearchResult (λ entry. key_cmp (key_of entry) key) entries r
    → IfOk r (IsAt entries key) × IfErr r (IsGapFor entries key)
searched entries key rising (Ok place) inside equal = (record { inside = inside; has_key = λ d. exact_key _ _ (ap is_eq (equal d)) }, tt)
searched entries key rising (Err place) inside parted =
    let sides = parted (searchable_from_sorted key_total key_of entries key (sorted entries rising)) in (
      tt,
      record {
        inside = inside;
        lower = λ j d lt. sides.0 j d (omega arith) lt;
        higher = λ j d le lt. sides.1 j d le lt;
      },
    )

-- ---- what is found

-- an entry that was read, and has the key
pub read_at : (entries : List Entry) (key : Key) (place : ℕ) (entry : Entry) → place < length entries → entry ≡ get_or entries place entry → same_key (key_of entry) key ≡ true → IsAt entries key place
read_at entries key place entry inside there same = record {
  inside = inside;
  has_key = λ d. ap key_of (get_or_default entries place d entry inside ∙ sym there) ∙ exact_key (key_of entry) key same;
}

rest_rising : (x : Entry) (xs : List Entry) → AreRising (x ∷ xs) → AreRising xs
rest_rising x xs rising i j d lt inside = rising (suc i) (suc j) d (omega arith) (omega arith)

taken : (b : Bool) (x : Entry) (found : Option Entry) → b ≡ true → option_map (λ (e : Entry). e.1) (cond b (Some x) found) ≡ Some x.1
taken true x found e = refl
taken false x found e = cc

passed : (b : Bool) (x : Entry) (found : Option Entry) → b ≡ false → option_map (λ (e : Entry). e.1) (cond b (Some x) found) ≡ option_map (λ (e : Entry). e.1) found
passed true x found e = cc
passed false x found e = refl

-- the offset beside a key that is there
pub offset_at : (entries : List Entry) (key : Key) → AreRising entries → (place : ℕ) → IsAt entries key place → (d : Entry) → offset_in entries key ≡ Some (get_or entries place d).1
offset_at [] key rising place is d = absurd (omega (arith, is.inside))
offset_at (x ∷ xs) key rising zero is d = taken _ x _ (subst (λ (k : Key). same_key (key_of x) k ≡ true) (is.has_key d) (same_key_self (key_of x)))
offset_at (x ∷ xs) key rising (suc place) is d =
    let lower : key_cmp (key_of x) key ≡ Less = subst (λ (k : Key). key_cmp (key_of x) k ≡ Less) (is.has_key d) (rising 0 (suc place) d (omega arith) is.inside) in
    passed _ x _ (ap is_eq lower) ∙ offset_at xs key (rest_rising x xs rising) place (record { inside = omega (arith, is.inside); has_key = is.has_key }) d

none_among : (entries : List Entry) (key : Key) → ((j : ℕ) (d : Entry) → j < length entries → same_key (key_of (get_or entries j d)) key ≡ false) → offset_in entries key ≡ None
none_among [] key each = refl
none_among (x ∷ xs) key each = passed _ x _ (each 0 x (omega arith)) ∙ none_among xs key (λ j d lt. each (suc j) d (omega arith))

in_gap : (entries : List Entry) (key : Key) (place : ℕ) → IsGapFor entries key place → (j : ℕ) (d : Entry) → j < length entries → same_key (key_of (get_or entries j d)) key ≡ false
in_gap entries key place gap j d lt = elim (cases_order j place) [
  | inl here ↦ ap is_eq (gap.higher j d (omega arith) lt)
  | inr (inl under) ↦ ap is_eq (gap.lower j d under)
  | inr (inr over) ↦ ap is_eq (gap.higher j d (omega arith) lt)
]

-- a key with a gap has no offset
pub offset_in_gap : (entries : List Entry) (key : Key) (place : ℕ) → IsGapFor entries key place → offset_in entries key ≡ None
offset_in_gap entries key place gap = none_among entries key (in_gap entries key place gap)

-- a key that is there has an offset
pub not_none : (o : Option ℕ) (x : ℕ) → o ≡ Some x → o ≡ None → ⊥
not_none o x is none = cc

-- ---- a key more

front : (b : Bool) (e : Entry) (found : Option Entry) → option_map (λ (x : Entry). x.1) (cond b (Some e) found) ≡ (if b then Some e.1 else option_map (λ (x : Entry). x.1) found)
front true e found = refl
front false e found = refl

first_none : (b : Bool) (x : Entry) (found : Option Entry) → option_map (λ (e : Entry). e.1) (cond b (Some x) found) ≡ None → (b ≡ false) × (option_map (λ (e : Entry). e.1) found ≡ None)
first_none true x found none = cc
first_none false x found none = (refl, none)

not_both : (b : Bool) → b ≡ true → b ≡ false → ⊥
not_both b p q = cc

other_key : (x key k : Key) (b : Bool) → same_key key k ≡ b → same_key x k ≡ true → same_key x key ≡ false → b ≡ false
other_key x key k true same is differs = absurd (not_both _ (subst (λ (o : Key). same_key x o ≡ true) (sym (exact_key key k same)) is) differs)
other_key x key k false same is differs = refl

behind : (x : Entry) (key k : Key) (at : ℕ) (found more : Option Entry) (b : Bool) → same_key (key_of x) k ≡ b → same_key (key_of x) key ≡ false
    → option_map (λ (e : Entry). e.1) more ≡ (if same_key key k then Some at else option_map (λ (e : Entry). e.1) found)
    → option_map (λ (e : Entry). e.1) (cond b (Some x) more) ≡ (if same_key key k then Some at else option_map (λ (e : Entry). e.1) (cond b (Some x) found))
behind x key k at found more true is differs rest = ap (λ (b : Bool). if b then Some at else Some x.1) (sym (other_key (key_of x) key k (same_key key k) refl is differs))
behind x key k at found more false is differs rest = rest

-- the new key has its offset, and any other the one that it had
pub offset_more : (entries : List Entry) (key : Key) (at place : ℕ) → offset_in entries key ≡ None → (k : Key) → offset_in (insert entries place (key, at)) k ≡ (if same_key key k then Some at else offset_in entries k)
offset_more entries key at zero none k = front (same_key key k) (key, at) (find (λ entry. same_key entry.0 k) entries)
offset_more [] key at (suc place) none k = front (same_key key k) (key, at) None
offset_more (x ∷ xs) key at (suc place) none k =
    let other = first_none (same_key (key_of x) key) x (find (λ entry. same_key entry.0 key) xs) none in
    behind x key k at (find (λ entry. same_key entry.0 k) xs) (find (λ entry. same_key entry.0 k) (insert xs place (key, at))) (same_key (key_of x) k) refl other.0 (offset_more xs key at place other.1 k)

-- the keys go on to rise
module _ (entries : List Entry) (key : Key) (at place : ℕ) (rising : AreRising entries) (gap : IsGapFor entries key place) where
  abbrev pub more : List Entry
  more = insert entries place (key, at)

  under : (i : ℕ) (d : Entry) → i < place → key_of (get_or more i d) ≡ key_of (get_or entries i d)
  under i d lt = ap key_of (get_or-insert_below entries place (key, at) d i lt gap.inside)

  here : (i : ℕ) (d : Entry) → i ≡ place → key_of (get_or more i d) ≡ key
  here i d is = ap (λ (n : ℕ). key_of (get_or more n d)) is ∙ ap key_of (get_or-insert_at entries place (key, at) d gap.inside)

  over : (i : ℕ) (d : Entry) → place < i → key_of (get_or more i d) ≡ key_of (get_or entries (i - 1) d)
  over i d lt =
      let next : i ≡ i - 1 + 1 = omega arith in
      ap (λ (n : ℕ). key_of (get_or more n d)) next ∙ ap key_of (get_or-insert_above entries place (key, at) d (i - 1) (omega arith) gap.inside)

  both : (i j : ℕ) (d : Entry) (a b : Key) → key_of (get_or more i d) ≡ a → key_of (get_or more j d) ≡ b → key_cmp a b ≡ Less → key_cmp (key_of (get_or more i d)) (key_of (get_or more j d)) ≡ Less
  both i j d a b is_a is_b less = ap (λ (k : Key). key_cmp k (key_of (get_or more j d))) is_a ∙ ap (key_cmp a) is_b ∙ less

  pub rising_more : AreRising more
  rising_more i j d lt inside =
      let longer : length more ≡ length entries + 1 = length-insert entries place (key, at) gap.inside in
      elim (cases_order j place) [
        | inl at_j ↦ both i j d (key_of (get_or entries i d)) key (under i d (omega arith)) (here j d at_j) (gap.lower i d (omega arith))
        | inr (inl under_j) ↦ both i j d (key_of (get_or entries i d)) (key_of (get_or entries j d)) (under i d (omega arith)) (under j d under_j) (rising i j d lt (omega (arith, gap.inside)))
        | inr (inr over_j) ↦ elim (cases_order i place) [
          | inl at_i ↦ both i j d key (key_of (get_or entries (j - 1) d)) (here i d at_i) (over j d over_j) (reversed (key_of (get_or entries (j - 1) d)) key Greater (gap.higher (j - 1) d (omega arith) (omega (arith, longer))))
          | inr (inl under_i) ↦ both i j d (key_of (get_or entries i d)) (key_of (get_or entries (j - 1) d)) (under i d under_i) (over j d over_j) (rising i (j - 1) d (omega arith) (omega (arith, longer)))
          | inr (inr over_i) ↦ both i j d (key_of (get_or entries (i - 1) d)) (key_of (get_or entries (j - 1) d)) (over i d over_i) (over j d over_j) (rising (i - 1) (j - 1) d (omega arith) (omega (arith, longer)))
        ]
      ]

  -- whether the new key comes in or not
  pub rising_tried : (b : Bool) → AreRising (if b then more else entries)
  rising_tried true = rising_more
  rising_tried false = rising
