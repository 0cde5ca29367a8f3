-- Where the records stand that ids name.
use Rattle.std.specs.Prelude.{List, [], ◌∷◌, ◌++◌, length, true, false, Option, Some, slice_get}
use Rattle.std.proofs.Common.{◌≡◌, ℕ, zero, suc, ◌+◌, ◌==◌, ◌<◌, ◌-◌, ◌≢◌, ◌∙◌, ap, subst, refl, if◌then◌else◌, is_some, arith}
use Rattle.std.proofs.lemmas.Bool.Decides.{nat_tests}
use Rattle.sel_log.specs.LogRecord.{id_of}
use Rattle.std.proofs.lemmas.Option.{slice_get_past, slice_get-get_or, slice_get_within}
use Rattle.sel_log.specs.Log.{with_id, asked_for, id_behind}
use Rattle.sel_log.specs.Sound.{CountFrom}

-- one more record, with the next id
pub counted_push : (id : ℕ) (records : List (List ℕ)) (r : List ℕ) → CountFrom id records → id_of r ≡ id + length records → CountFrom id (records ++ r ∷ [])
counted_push id [] r counted next = (omega (arith, next), tt)
counted_push id (first ∷ behind) r counted next =
    (counted.0, counted_push (id + 1) behind r counted.1 (omega (arith, next)))

-- the id of the record at a place
pub id_at : (id : ℕ) (records : List (List ℕ)) (place : ℕ) (r : List ℕ) → CountFrom id records → slice_get records place ≡ Some r → id_of r ≡ id + place
id_at id [] place r counted there = (cc)
id_at id (first ∷ behind) zero r counted there =
    let same : first ≡ r = cc in
    subst (λ (x : List ℕ). id_of x ≡ id + 0) same (omega (arith, counted.0))
id_at id (first ∷ behind) (suc place) r counted there = omega (arith, id_at (id + 1) behind place r counted.1 there)

-- the record that has an id stands as far from the front as its id is above the first
pub with_id_at : (first_id : ℕ) (records : List (List ℕ)) (place id : ℕ) → CountFrom first_id records → id ≡ first_id + place → with_id records id ≡ slice_get records place
with_id_at first_id [] place id counted far = refl
with_id_at first_id (first ∷ behind) zero id counted far =
    let found : (id_of first == id) ≡ true = grind (arith, nat_tests, counted.0) in rw found
with_id_at first_id (first ∷ behind) (suc place) id counted far =
    let other : (id_of first == id) ≡ false = grind (arith, nat_tests, counted.0) in
    rw other (with_id_at (first_id + 1) behind place id counted.1 (omega arith))

-- an id's record
pub asked_by_id : (records : List (List ℕ)) (id : ℕ) → CountFrom 1 records → id ≢ 0x0000 → id ≢ 0xFFFF → asked_for records id ≡ slice_get records (id - 1)
asked_by_id records id counted first last =
    let not_first : (id == 0x0000) ≡ false = grind (arith, nat_tests) in
    let not_last : (id == 0xFFFF) ≡ false = grind (arith, nat_tests) in
    rw (not_first, not_last) (with_id_at 1 records (id - 1) id counted (omega arith))

-- the id behind a record is told by what stands at the next place
behind_by_place : (records : List (List ℕ)) (place : ℕ) (r : List ℕ) → CountFrom 1 records → slice_get records place ≡ Some r →
    id_behind records (id_of r) ≡ (if is_some (slice_get records (place + 1)) then place + 2 else 0xFFFF)
behind_by_place records place r counted there =
    let numbered : id_of r ≡ 1 + place = id_at 1 records place r counted there in
    let next : with_id records (id_of r + 1) ≡ slice_get records (place + 1) = with_id_at 1 records (place + 1) (id_of r + 1) counted (omega (arith, numbered)) in
    let two : id_of r + 1 ≡ place + 2 = omega (arith, numbered) in
    ap (λ (o : Option (List ℕ)). if is_some o then id_of r + 1 else 0xFFFF) next
    ∙ ap (λ (n : ℕ). if is_some (slice_get records (place + 1)) then n else 0xFFFF) two

-- the last record has none behind it
pub behind_last : (records : List (List ℕ)) (place : ℕ) (r : List ℕ) → CountFrom 1 records → slice_get records place ≡ Some r → place + 1 ≡ length records → id_behind records (id_of r) ≡ 0xFFFF
behind_last records place r counted there last =
    behind_by_place records place r counted there
    ∙ ap (λ (o : Option (List ℕ)). if is_some o then place + 2 else 0xFFFF) (slice_get_past records (place + 1) (omega arith))

-- any other has the next id behind it
pub behind_other : (records : List (List ℕ)) (place : ℕ) (r : List ℕ) → CountFrom 1 records → slice_get records place ≡ Some r → place + 1 ≢ length records → id_behind records (id_of r) ≡ place + 2
behind_other records place r counted there other =
    let within : place < length records = slice_get_within records place r there in
    behind_by_place records place r counted there
    ∙ ap (λ (o : Option (List ℕ)). if is_some o then place + 2 else 0xFFFF) (slice_get-get_or records (place + 1) [] (omega arith))
