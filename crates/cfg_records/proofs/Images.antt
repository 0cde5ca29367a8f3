-- What a value that is written, and a record more, make of an image.
use Rattle.std.proofs.Common.{◌≡◌, ℕ, ◌+◌, ◌/◌, ◌%◌, ◌<◌, ◌≤◌, ◌⊎◌, ◌++◌, inl, inr, List, length, slice_index, take, drop, Option, Some, None, IsTrue, Bool, true, false, if◌then◌else◌, refl, sym, ◌∙◌, ap, subst, arith}
use Rattle.std.specs.Option.{option_map}
use Rattle.std.proofs.lemmas.Bool.{cases_order}
use Rattle.std.proofs.lemmas.Grind.{same_number_lists}
use Rattle.std.proofs.lemmas.List.{get_or-take, get_or-drop, length-take-le, length-drop}
use Rattle.std.proofs.Math.Seq.{take-append_seam}
use Rattle.record_base.specs.declared.key.Key.{Key}
use Rattle.record_base.specs.Keys.{same_key, is_length}
use Rattle.record_base.specs.KeyLaws.{exact_key}
use Rattle.cfg_records.specs.Records.{with_record}
use Rattle.cfg_records.specs.Image.{Offsets, length_at, value_at, records_in, IsImage, WroteAt, HasAdded}

-- ---- parts of bytes

part_at : (bytes : List ℕ) (at n k : ℕ) → k < n → slice_index (take n (drop at bytes)) k ≡ slice_index bytes (at + k)
part_at bytes at n k lt = get_or-take n (drop at bytes) k 0 lt ∙ get_or-drop at bytes k 0

part_length : (bytes : List ℕ) (at n : ℕ) → at + n ≤ length bytes → length (take n (drop at bytes)) ≡ n
part_length bytes at n h = length-take-le n (drop at bytes) (simp length-drop (omega arith))

same_part : (a b : List ℕ) (at n : ℕ) → at + n ≤ length a → at + n ≤ length b → ((k : ℕ) → k < n → slice_index a (at + k) ≡ slice_index b (at + k)) → take n (drop at a) ≡ take n (drop at b)
same_part a b at n ha hb each =
    same_number_lists _ _ (part_length a at n ha ∙ sym (part_length b at n hb))
    (λ k lt. let low : k < n = omega (arith, part_length a at n ha) in part_at a at n k low ∙ each k low ∙ sym (part_at b at n k low))

-- ---- the value at an offset

-- the length that stands there
pub length_there : (bytes : List ℕ) (at n : ℕ) → slice_index bytes at ≡ n % 256 → slice_index bytes (at + 1) ≡ n / 256 → length_at bytes at ≡ n
length_there bytes at n low high = omega (arith, low, high)

-- the value that stands there
value_there : (bytes : List ℕ) (at : ℕ) (value : List ℕ) → at + 2 + length value ≤ length bytes → length_at bytes at ≡ length value → ((k : ℕ) → k < length value → slice_index bytes (at + 2 + k) ≡ slice_index value k) → value_at bytes at ≡ value
value_there bytes at value inside long body =
    ap (λ n. take n (drop (at + 2) bytes)) long
    ∙ same_number_lists _ _ (part_length bytes (at + 2) (length value) inside)
    (λ k lt. let low : k < length value = omega (arith, part_length bytes (at + 2) (length value) inside) in part_at bytes (at + 2) (length value) k low ∙ body k low)

-- the bytes of a record stay
abbrev Stays : List ℕ → List ℕ → ℕ → Type 0
Stays old new at = (k : ℕ) → at ≤ k → k < at + 2 + length_at old at → slice_index new k ≡ slice_index old k

length_stays : (old new : List ℕ) (at : ℕ) → Stays old new at → length_at new at ≡ length_at old at
length_stays old new at stays = omega (arith, stays at (omega arith) (omega arith), stays (at + 1) (omega arith) (omega arith))

value_stays : (old new : List ℕ) (at : ℕ) → at + 2 + length_at old at ≤ length old → length old ≤ length new → Stays old new at → value_at new at ≡ value_at old at
value_stays old new at inside longer stays =
    ap (λ n. take n (drop (at + 2) new)) (length_stays old new at stays)
    ∙ same_part new old (at + 2) (length_at old at) (omega arith) (omega arith) (λ k lt. stays (at + 2 + k) (omega arith) (omega arith))

-- all of a list that was lent comes back
pub whole : (old new : List ℕ) (n : ℕ) → n ≡ length old → length new ≡ length old → take n (new ++ drop (length new) old) ≡ new
whole old new n all same = ap (λ m. take m (new ++ drop (length new) old)) (all ∙ sym same) ∙ take-append_seam new (drop (length new) old)

-- ---- keys

one_place : (o : Option ℕ) (a b : ℕ) → o ≡ Some a → o ≡ Some b → a ≡ b
one_place o a b p q = cc

not_both : (b : Bool) → b ≡ true → b ≡ false → ⊥
not_both b p q = cc

-- a key of the same record has values of the same lengths
pub its_kind : (bytes : List ℕ) (offsets : Offsets) (key other : Key) (at n : ℕ) → IsImage bytes offsets → offsets key ≡ Some at → offsets other ≡ Some at → IsTrue (is_length key n) → IsTrue (is_length other n)
its_kind bytes offsets key other at n image is also fits = subst (λ (k : Key). IsTrue (is_length k n)) (exact_key key other (image.own key other at is also)) fits

-- ---- a value that is written

module _ (old new : List ℕ) (offsets : Offsets) (key : Key) (at : ℕ) (value : List ℕ) (image : IsImage old offsets) (is : offsets key ≡ Some at) (fits : IsTrue (is_length key (length value))) (wrote : WroteAt old new at value) where
  long : length_at new at ≡ length value
  long = length_there new at (length value) wrote.low wrote.high

  back : value_at new at ≡ value
  back = value_there new at value (omega (arith, wrote.same_length, image.within key at (length value) is fits)) long wrote.body

  -- the record of any other key stays
  others_stay : (k : Key) (next : ℕ) → offsets k ≡ Some next → same_key key k ≡ false → Stays old new next
  others_stay k next is_next differs n low high = elim (cases_order at next) [
    | inl one ↦ absurd (not_both _ (image.own key k next (is ∙ ap Some one) is_next) differs)
    | inr (inl lt) ↦ wrote.behind n (omega (arith, image.apart key k at next (length value) is is_next lt fits))
    | inr (inr lt) ↦ wrote.before n (omega (arith, image.apart k key next at (length_at old next) is_next is lt (image.of_kind k next is_next)))
  ]

  kind_where : (k : Key) (next : ℕ) → offsets k ≡ Some next → (b : Bool) → same_key key k ≡ b → IsTrue (is_length k (length_at new next))
  kind_where k next is_next true same =
      let one : key ≡ k = exact_key key k same in
      let there : at ≡ next = one_place (offsets k) at next (ap offsets (sym one) ∙ is) is_next in
      subst (λ (n : ℕ). IsTrue (is_length k n)) (sym long ∙ ap (length_at new) there) (subst (λ (o : Key). IsTrue (is_length o (length value))) one fits)
  kind_where k next is_next false differs = subst (λ (n : ℕ). IsTrue (is_length k n)) (sym (length_stays old new next (others_stay k next is_next differs))) (image.of_kind k next is_next)

  -- the bytes are an image as before
  pub image_written : IsImage new offsets
  image_written = record {
    of_kind = λ k next is_next. kind_where k next is_next (same_key key k) refl;
    within = λ k next n is_next of_k. omega (arith, wrote.same_length, image.within k next n is_next of_k);
    apart = image.apart;
    own = image.own;
  }

  other_where : (k : Key) → same_key key k ≡ false → (found : Option ℕ) → offsets k ≡ found → option_map (value_at new) found ≡ option_map (value_at old) found
  other_where k differs None found = refl
  other_where k differs (Some next) found = ap Some (value_stays old new next (image.within k next _ found (image.of_kind k next found)) (omega (arith, wrote.same_length)) (others_stay k next found differs))

  record_where : (k : Key) (b : Bool) → same_key key k ≡ b → records_in new offsets k ≡ (if b then Some value else records_in old offsets k)
  record_where k true same = ap (option_map (value_at new)) (ap offsets (sym (exact_key key k same)) ∙ is) ∙ ap Some back
  record_where k false differs = other_where k differs (offsets k) refl

  -- and the key's record alone is another
  pub records_written : records_in new offsets ≡ with_record (records_in old offsets) key value
  records_written = λ i k. record_where k (same_key key k) refl i

-- ---- a record more

-- where a record lies, once one more does
abbrev Where : Bool → Option ℕ → ℕ → ℕ → Type 0
Where b before new at = ((b ≡ true) × (new ≡ at)) ⊎ ((b ≡ false) × (before ≡ Some at))

where_at : (b : Bool) (before : Option ℕ) (new at : ℕ) → (if b then Some new else before) ≡ Some at → Where b before new at
where_at true before new at is = inl (refl, one_place (Some new) new at refl is)
where_at false before new at is = inr (refl, is)

module _ (old new : List ℕ) (before after : Offsets) (key : Key) (room : ℕ) (value : List ℕ) (image : IsImage old before)
    (more : (k : Key) → after k ≡ (if same_key key k then Some (length old) else before k)) (fits : IsTrue (is_length key (length value))) (longest : (n : ℕ) → IsTrue (is_length key n) → n ≤ room) (added : HasAdded old new room value) where
  lies : (k : Key) (at : ℕ) → after k ≡ Some at → Where (same_key key k) (before k) (length old) at
  lies k at is = where_at (same_key key k) (before k) (length old) at (sym (more k) ∙ is)

  new_long : length_at new (length old) ≡ length value
  new_long = length_there new (length old) (length value) added.low added.high

  new_back : value_at new (length old) ≡ value
  new_back = value_there new (length old) value (omega (arith, added.longer, longest (length value) fits)) new_long added.body

  inside : (k : Key) (at : ℕ) → before k ≡ Some at → at + 2 + length_at old at ≤ length old
  inside k at is = image.within k at _ is (image.of_kind k at is)

  olds_stay : (k : Key) (at : ℕ) → before k ≡ Some at → Stays old new at
  olds_stay k at is n low high = added.before n (omega (arith, inside k at is))

  kind_now : (k : Key) (at : ℕ) → Where (same_key key k) (before k) (length old) at → IsTrue (is_length k (length_at new at))
  kind_now k at (inl is) =
      subst (λ (n : ℕ). IsTrue (is_length k n)) (sym new_long ∙ ap (length_at new) is.1) (subst (λ (o : Key). IsTrue (is_length o (length value))) (exact_key key k is.0) fits)
  kind_now k at (inr is) = subst (λ (n : ℕ). IsTrue (is_length k n)) (sym (length_stays old new at (olds_stay k at is.1))) (image.of_kind k at is.1)

  within_now : (k : Key) (at n : ℕ) → Where (same_key key k) (before k) (length old) at → IsTrue (is_length k n) → at + 2 + n ≤ length new
  within_now k at n (inl is) of_k =
      let short : n ≤ room = longest n (subst (λ (o : Key). IsTrue (is_length o n)) (sym (exact_key key k is.0)) of_k) in
      omega (arith, is.1, added.longer)
  within_now k at n (inr is) of_k = omega (arith, added.longer, image.within k at n is.1 of_k)

  apart_now : (k other : Key) (at next n : ℕ) → Where (same_key key k) (before k) (length old) at → Where (same_key key other) (before other) (length old) next → at < next → IsTrue (is_length k n) → at + 2 + n ≤ next
  apart_now k other at next n (inl is) (inl also) lt of_k = absurd (omega (arith, is.1, also.1))
  apart_now k other at next n (inl is) (inr also) lt of_k = absurd (omega (arith, is.1, inside other next also.1))
  apart_now k other at next n (inr is) (inl also) lt of_k = omega (arith, also.1, image.within k at n is.1 of_k)
  apart_now k other at next n (inr is) (inr also) lt of_k = image.apart k other at next n is.1 also.1 lt of_k

  own_now : (k other : Key) (at : ℕ) → Where (same_key key k) (before k) (length old) at → Where (same_key key other) (before other) (length old) at → IsTrue (same_key k other)
  own_now k other at (inl is) (inl also) = subst (λ (o : Key). IsTrue (same_key o other)) (exact_key key k is.0) also.0
  own_now k other at (inl is) (inr also) = absurd (omega (arith, is.1, inside other at also.1))
  own_now k other at (inr is) (inl also) = absurd (omega (arith, also.1, inside k at is.1))
  own_now k other at (inr is) (inr also) = image.own k other at is.1 also.1

  -- the bytes are an image
  pub image_added : IsImage new after
  image_added = record {
    of_kind = λ k at is. kind_now k at (lies k at is);
    within = λ k at n is of_k. within_now k at n (lies k at is) of_k;
    apart = λ k other at next n is also lt of_k. apart_now k other at next n (lies k at is) (lies other next also) lt of_k;
    own = λ k other at is also. own_now k other at (lies k at is) (lies other at also);
  }

  old_where : (k : Key) (found : Option ℕ) → before k ≡ found → option_map (value_at new) found ≡ option_map (value_at old) found
  old_where k None found = refl
  old_where k (Some at) found = ap Some (value_stays old new at (inside k at found) (omega (arith, added.longer)) (olds_stay k at found))

  added_where : (k : Key) (b : Bool) → option_map (value_at new) (if b then Some (length old) else before k) ≡ (if b then Some value else records_in old before k)
  added_where k true = ap Some new_back
  added_where k false = old_where k (before k) refl

  -- with the key's record more
  pub records_added : (k : Key) → records_in new after k ≡ with_record (records_in old before) key value k
  records_added k = ap (option_map (value_at new)) (more k) ∙ added_where k (same_key key k)
