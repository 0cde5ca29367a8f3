-- Pairs that are packed, one after another.
use Rattle.std.proofs.Common.{◌≡◌, ℕ, ◌+◌, ◌<◌, ◌≤◌, List, [], ◌∷◌, ◌++◌, length, get_or, take, Option, Some, None, IsTrue, Bool, true, false, if◌then◌else◌, refl, sym, ◌∙◌, ap, subst}
use Rattle.std.specs.List.{list_any, Any}
use Rattle.std.specs.Option.{option_map}
use Rattle.std.proofs.lemmas.List.{take_more}
use Rattle.std.proofs.lemmas.List.Folds.{Any-from_list_any, list_any-from_Any}
use Rattle.record_base.specs.declared.key.Key.{Key}
use Rattle.record_base.specs.Keys.{same_key, is_length}
use Rattle.record_base.specs.KeyLaws.{exact_key, same_key_self}
use Rattle.record_base.proofs.Names.{NamesDiffer-more, NamesDiffer-twice}
use Rattle.cfg_records.specs.Records.{Records, Pair, key_in, with_record, records_of, KeysDiffer, LengthsFit}
use Rattle.cfg_records.proofs.Pairs.{records_of-push, KeysDiffer-twice}
use Rattle.cfg_records.specs.Image.{Offsets, value_at, records_in, IsImage, HasAdded}
use Rattle.cfg_records.proofs.Images.{image_added, records_added}

-- ---- keys that differ

not_both : (b : Bool) → b ≡ true → b ≡ false → ⊥
not_both b p q = cc

-- a pair with the key of none before it
pub differ_more : (pairs : List Pair) (pair : Pair) → KeysDiffer pairs → list_any (λ p. same_key p.0 pair.0) pairs ≡ false → KeysDiffer (pairs ++ pair ∷ [])
differ_more pairs pair differ new =
    NamesDiffer-more key_in pairs pair differ
    (λ any. not_both _ (list_any-from_Any (λ p. same_key p.0 pair.0) pairs (any.0, any.1, any.2, any.3, subst (λ (k : Key). same_key any.1.0 k ≡ true) any.4 (same_key_self any.1.0))) new)

-- a pair with the key of one before it
pub differ_not : (pairs : List Pair) (i : ℕ) (pair : Pair) → i < length pairs → pair ≡ get_or pairs i pair → list_any (λ p. same_key p.0 pair.0) (take i pairs) ≡ true → ¬ KeysDiffer pairs
differ_not pairs i pair inside is had =
    let any : Any (λ p. same_key p.0 pair.0 ≡ true) (take i pairs) = Any-from_list_any (λ p. same_key p.0 pair.0) (take i pairs) had in
    NamesDiffer-twice key_in pairs i pair inside is (any.0, any.1, any.2, any.3, exact_key _ _ any.4)

-- ---- a key that is new

new_where : (pairs : List Pair) (i : ℕ) (pair : Pair) → KeysDiffer pairs → i < length pairs → pair ≡ get_or pairs i pair → (had : Option (List ℕ)) → records_of (take i pairs) pair.0 ≡ had → had ≡ None
new_where pairs i pair differ inside is None had = refl
new_where pairs i pair differ inside is (Some value) had = absurd (KeysDiffer-twice pairs i pair value inside is had differ)

nowhere : (bytes : List ℕ) (found : Option ℕ) → option_map (value_at bytes) found ≡ None → found ≡ None
nowhere bytes None none = refl
nowhere bytes (Some at) none = cc

-- ---- one pair more

module _ (pairs : List Pair) (i : ℕ) (pair : Pair) (bytes : List ℕ) (offsets : Offsets) (differ : KeysDiffer pairs) (inside : i < length pairs) (is : pair ≡ get_or pairs i pair)
    (image : IsImage bytes offsets) (written : (key : Key) → records_in bytes offsets key ≡ records_of (take i pairs) key) where
  new_key : records_of (take i pairs) pair.0 ≡ None
  new_key = new_where pairs i pair differ inside is (records_of (take i pairs) pair.0) refl

  -- where keys differ, the next pair's has no offset yet
  pub no_offset : offsets pair.0 ≡ None
  no_offset = nowhere bytes (offsets pair.0) (written pair.0 ∙ new_key)

  module _ (fit : LengthsFit pairs) (new : List ℕ) (after : Offsets) (at room : ℕ) (value : List ℕ) (at_end : at ≡ length bytes) (its : value ≡ pair.1)
      (more : (k : Key) → after k ≡ (if same_key pair.0 k then Some at else offsets k)) (longest : (n : ℕ) → IsTrue (is_length pair.0 n) → n ≤ room) (added : HasAdded bytes new room value) where
    fits : IsTrue (is_length pair.0 (length value))
    fits = subst (λ (v : List ℕ). IsTrue (is_length pair.0 (length v))) (sym its) (subst (λ (p : Pair). IsTrue (is_length p.0 (length p.1))) (sym is) (fit i pair inside))

    at_length : (k : Key) → after k ≡ (if same_key pair.0 k then Some (length bytes) else offsets k)
    at_length k = more k ∙ ap (λ n. if same_key pair.0 k then Some n else offsets k) at_end

    -- an image again
    pub image_more : IsImage new after
    image_more = image_added bytes new offsets after pair.0 room value image at_length fits longest added

    -- with the records of one pair more
    pub written_more : (key : Key) → records_in new after key ≡ records_of (take (i + 1) pairs) key
    written_more key =
        let was : records_in bytes offsets ≡ records_of (take i pairs) = λ j k. written k j in
        let pairs_then : take (i + 1) pairs ≡ take i pairs ++ pair ∷ [] = take_more pairs i pair inside ∙ ap (λ (p : Pair). take i pairs ++ p ∷ []) (sym is) in
        records_added bytes new offsets after pair.0 room value image at_length fits longest added key
        ∙ ap (λ (r : Records). with_record r pair.0 value key) was
        ∙ ap (λ (v : List ℕ). with_record (records_of (take i pairs)) pair.0 v key) its
        ∙ sym (ap (λ (r : Records). r key) (records_of-push (take i pairs) pair new_key))
        ∙ ap (λ (ps : List Pair). records_of ps key) (sym pairs_then)
