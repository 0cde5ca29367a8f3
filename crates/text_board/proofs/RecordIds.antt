-- The ids of sensor data records.
use Rattle.std.proofs.Common.{◌≡◌, ◌≢◌, ℕ, zero, suc, ◌<◌, ◌==◌, ◌||◌, length, get_or, map, List, [], ◌∷◌, Bool, true, false, refl, ap, sym, ◌∙◌, arith}
use Rattle.std.proofs.lemmas.Bool.{false≢true}
use Rattle.std.proofs.lemmas.Bool.Decides.{nat_tests}
use Rattle.std.specs.List.{list_any, AllZip}
use Rattle.toml.specs.Data.{Data}
use Rattle.record_base.specs.Sdr.{sdr_id}
use Rattle.record_base.specs.Distinct.{NamesDiffer}
use Rattle.text_fields.specs.declared.field.Field.TheVariants as field
use Rattle.text_board.specs.declared.fault.FileFault.TheVariants as file
use Rattle.text_board.specs.declared.fault.Item.TheVariants as item
use Rattle.text_board.specs.Faults.{has_twice, ids_in, id_of, record_faults}
use Rattle.text_board.specs.Holds.{IsRecordIn}

equal_test : (a b : ℕ) → a ≡ b → (a == b) ≡ true
equal_test a b same = grind (arith, nat_tests)

-- as many ids as records, each its own
pub ids_are : (ds : List Data) (records : List (List ℕ)) → AllZip IsRecordIn ds records → ids_in ds ≡ map sdr_id records
ids_are [] [] zip = refl
ids_are [] (r ∷ rs) zip = absurd zip
ids_are (d ∷ ds) [] zip = absurd zip
ids_are (d ∷ ds) (r ∷ rs) zip = λ i. ap id_of zip.0 i ∷ ids_are ds rs zip.1 i

or_false : (a b : Bool) → a ≡ false → b ≡ false → (a || b) ≡ false
or_false false b p q = q
or_false true b p q = p

or_parts : (a b : Bool) → (a || b) ≡ false → (a ≡ false) × (b ≡ false)
or_parts false b e = (refl, e)
or_parts true b e = cc

other_test : (a b : ℕ) → a ≢ b → (a == b) ≡ false
other_test a b other = grind (arith, nat_tests)

none_taken : (records : List (List ℕ)) (n : ℕ) → ((k : ℕ) (d : List ℕ) → k < length records → n ≢ sdr_id (get_or records k d)) → list_any (λ other. other == n) (map sdr_id records) ≡ false
none_taken [] n others = refl
none_taken (r ∷ rs) n others =
    or_false (sdr_id r == n) _ (other_test (sdr_id r) n (λ same. others 0 [] (omega arith) (sym same))) (none_taken rs n (λ k d within. others (suc k) d (omega arith)))

-- records whose ids differ have none twice
pub none_twice : (records : List (List ℕ)) → NamesDiffer sdr_id records → has_twice (map sdr_id records) ≡ false
none_twice [] differ = refl
none_twice (r ∷ rs) differ =
    or_false (list_any (λ other. other == sdr_id r) (map sdr_id rs)) _ (none_taken rs (sdr_id r) (λ k d within. differ 0 (suc k) d (omega arith) (omega arith)))
    (none_twice rs (λ i j d below within. differ (suc i) (suc j) d (omega arith) (omega arith)))

other_at : (records : List (List ℕ)) (n : ℕ) → list_any (λ other. other == n) (map sdr_id records) ≡ false → (k : ℕ) (d : List ℕ) → k < length records → n ≢ sdr_id (get_or records k d)
other_at [] n none k d within same = absurd (omega (arith, within))
other_at (r ∷ rs) n none zero d within same = let parts = or_parts (sdr_id r == n) _ none in false≢true (sym parts.0 ∙ equal_test (sdr_id r) n (sym same))
other_at (r ∷ rs) n none (suc k) d within same = other_at rs n (or_parts (sdr_id r == n) _ none).1 k d (omega (arith, within)) same

-- and the other way round
pub all_differ : (records : List (List ℕ)) → has_twice (map sdr_id records) ≡ false → NamesDiffer sdr_id records
all_differ [] none i j d below within = absurd (omega arith)
all_differ (r ∷ rs) none zero zero d below within = absurd (omega arith)
all_differ (r ∷ rs) none zero (suc j) d below within = other_at rs (sdr_id r) (or_parts (list_any (λ other. other == sdr_id r) (map sdr_id rs)) _ none).0 j d (omega arith)
all_differ (r ∷ rs) none (suc i) zero d below within = absurd (omega arith)
all_differ (r ∷ rs) none (suc i) (suc j) d below within = all_differ rs (or_parts (list_any (λ other. other == sdr_id r) (map sdr_id rs)) _ none).1 i j d (omega arith) (omega arith)

-- there is no fault where the ids differ
pub none_at_fault : (ds : List Data) (records : List (List ℕ)) → AllZip IsRecordIn ds records → NamesDiffer sdr_id records → record_faults ds ≡ []
none_at_fault ds records zip differ = rw (ap has_twice (ids_are ds records zip) ∙ none_twice records differ)

twice_where : (records : List (List ℕ)) (b : Bool) → has_twice (map sdr_id records) ≡ b → (NamesDiffer sdr_id records → ⊥) → has_twice (map sdr_id records) ≡ true
twice_where records true is same = is
twice_where records false is same = absurd (same (all_differ records is))

-- and else this one
pub one_twice : (ds : List Data) (records : List (List ℕ)) → AllZip IsRecordIn ds records → (NamesDiffer sdr_id records → ⊥)
    → record_faults ds ≡ file.Twice (record { item = item.Top; field = field.Sdr }) ∷ []
one_twice ds records zip same = rw (ap has_twice (ids_are ds records zip) ∙ twice_where records (has_twice (map sdr_id records)) refl same)
