-- Sensors that are found by their numbers, as one after another is looked at.
use Rattle.std.proofs.Common.{◌≡◌, ℕ, ◌+◌, ◌<◌, ◌≤◌, ◌≢◌, List, [], ◌∷◌, ◌++◌, length, get_or, take, Option, Some, None, Bool, true, false, cond, ◌==◌, refl, ap, sym, ◌∙◌, arith, get_or-take, slice_index, replicate}
use Rattle.std.specs.List.{slice_get}
use Rattle.std.specs.Option.{option_or}
use Rattle.std.proofs.lemmas.Bool.Decides.{nat_tests}
use Rattle.std.proofs.lemmas.List.{length-take, take_more, get_or-set_other, get_or-replicate}
use Rattle.std.proofs.lemmas.Grind.{get_or-set_at}
use Rattle.std.proofs.lemmas.Option.{slice_get_read, slice_get_past}
use Rattle.std.proofs.Math.ListN.{set}
use Rattle.std.proofs.lemmas.List.Folds.{find-append}
use Rattle.record_base.specs.declared.sensor.Sensor.{Sensor}
use Rattle.record_base.specs.Distinct.{NamesDiffer}
use Rattle.cfg_records.proofs.Searches.{find_some}
use Rattle.record_kinds.specs.Boards.{sensor_at}

-- the sensor has the number
abbrev has_number : ℕ → Sensor → Bool
has_number number = λ sensor. sensor.number == number

same_number : (m n : ℕ) → (m == n) ≡ true → m ≡ n
same_number m n h = grind (arith, nat_tests)

none_or : (found : Option Sensor) → ((q : Sensor) → found ≡ Some q → ⊥) → found ≡ None
none_or None h = refl
none_or (Some q) h = absurd (h q refl)

-- no sensor before this one has its number
alone : (sensors : List Sensor) (i : ℕ) (s : Sensor) (number : ℕ) → NamesDiffer (λ (x : Sensor). x.number) sensors → i < length sensors → s ≡ get_or sensors i s → s.number ≡ number → sensor_at (take i sensors) number ≡ None
alone sensors i s number differ inside is has =
    none_or (sensor_at (take i sensors) number) (λ q found.
    let place = find_some (has_number number) (take i sensors) q found in
    let k : ℕ = place.0 in
    let earlier : k < i = omega (arith, place.1.inside, length-take i sensors) in
    let is_q : get_or sensors k s ≡ q = sym (get_or-take i sensors k s earlier) ∙ place.1.is_it s in
    differ k i s earlier inside (ap (λ (x : Sensor). x.number) is_q ∙ same_number _ _ place.1.passes ∙ sym has ∙ ap (λ (x : Sensor). x.number) is))

joined : (found : Option Sensor) (s : Sensor) (b : Bool) → (b ≡ true → found ≡ None) → option_or found (cond b (Some s) None) ≡ cond b (Some s) found
joined None s true new = refl
joined None s false new = refl
joined (Some q) s true new = let none : Some q ≡ None = new refl in cc
joined (Some q) s false new = refl

-- the next sensor is found by its number, and the others as before
sensor_at-more : (sensors : List Sensor) (i : ℕ) (s : Sensor) (number : ℕ) → NamesDiffer (λ (x : Sensor). x.number) sensors → i < length sensors → s ≡ get_or sensors i s
    → sensor_at (take (i + 1) sensors) number ≡ cond (s.number == number) (Some s) (sensor_at (take i sensors) number)
sensor_at-more sensors i s number differ inside is =
    ap (λ (xs : List Sensor). sensor_at xs number) (take_more sensors i s inside ∙ ap (λ (x : Sensor). take i sensors ++ x ∷ []) (sym is))
    ∙ find-append (has_number number) (take i sensors) (s ∷ [])
    ∙ joined (sensor_at (take i sensors) number) s (s.number == number) (λ has. alone sensors i s number differ inside is (same_number _ _ has))

-- at first no sensor stands anywhere
pub none_placed : (sensors : List Sensor) (number : ℕ) → length sensors ≤ 32 → number < 256 → slice_get sensors (slice_index (replicate 256 255) number) ≡ None
none_placed sensors number few lt = ap (slice_get sensors) (get_or-replicate 256 number 255 0 lt) ∙ slice_get_past sensors 255 (omega arith)

other_number : (m n : ℕ) → (m == n) ≡ false → n ≢ m
other_number m n h same = grind (arith, nat_tests)

placed : (sensors : List Sensor) (places : List ℕ) (i : ℕ) (s : Sensor) (number : ℕ) (found : Option Sensor) → i < length sensors → s ≡ get_or sensors i s → s.number < length places
    → slice_get sensors (slice_index places number) ≡ found → (b : Bool) → (s.number == number) ≡ b → slice_get sensors (slice_index (set places s.number i) number) ≡ cond b (Some s) found
placed sensors places i s number found inside is fits before true e =
    ap (slice_get sensors) (get_or-set_at places s.number number i 0 (sym (same_number _ _ e)) fits) ∙ slice_get_read sensors (length sensors) i s refl inside is
placed sensors places i s number found inside is fits before false e =
    ap (slice_get sensors) (get_or-set_other places s.number number i 0 (other_number _ _ e)) ∙ before

-- with the next sensor's place, those up to it are found
pub more_placed : (sensors : List Sensor) (places : List ℕ) (i : ℕ) (s : Sensor) (number : ℕ) → NamesDiffer (λ (x : Sensor). x.number) sensors → i < length sensors → s ≡ get_or sensors i s → s.number < length places
    → slice_get sensors (slice_index places number) ≡ sensor_at (take i sensors) number → slice_get sensors (slice_index (set places s.number i) number) ≡ sensor_at (take (i + 1) sensors) number
more_placed sensors places i s number differ inside is fits before =
    placed sensors places i s number (sensor_at (take i sensors) number) inside is fits before (s.number == number) refl ∙ sym (sensor_at-more sensors i s number differ inside is)
