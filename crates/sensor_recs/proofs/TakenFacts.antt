-- Readings that were taken, and the places of their events.
use Rattle.std.proofs.Common.{◌≡◌, ℕ, zero, suc, ◌<◌, nat_lt, List, [], ◌∷◌, length, Bool, true, refl, ap, subst, arith}
use Rattle.std.proofs.Math.Nat.{ℕ_set}
use Rattle.std.proofs.lemmas.Bool.{and_parts}
use Rattle.std.proofs.lemmas.Bool.Decides.{nat_tests}
use Rattle.std.proofs.lemmas.List.Elements.{All-filter}
use Rattle.std.specs.List.{All, list_all}
use Rattle.sensor_recs.specs.declared.comparator.Comparator.{Comparator}
use Rattle.sensor_recs.specs.declared.comparator.Event.{Event}
use Rattle.sensor_recs.specs.declared.comparator.LastReading.{LastReading}
use Rattle.sensor_recs.specs.Readings.{events_below, is_made, events_of}

-- a reading of these parts
abbrev pub taken_with : (raw : ℕ) (beyond : List Bool) → length beyond ≡ 6 → LastReading
taken_with raw beyond six = record { raw = raw; beyond = beyond; six = six }

-- readings of the same parts are one
pub same_taken : (raw : ℕ) (beyond others : List Bool) (six : length beyond ≡ 6) (also : length others ≡ 6) → beyond ≡ others → taken_with raw beyond six ≡ taken_with raw others also
same_taken raw beyond others six also same =
    subst (λ (v : List Bool). (of : length v ≡ 6) → taken_with raw beyond six ≡ taken_with raw v of) same
    (λ of. ap (taken_with raw beyond) (ℕ_set (length beyond) 6 six of)) also

lt_from : (m n : ℕ) → nat_lt m n ≡ true → m < n
lt_from m n h = grind (arith, nat_tests)

below_from : (events : List Event) → list_all (λ (e : Event). nat_lt e.place 6) events ≡ true → All (λ (e : Event). e.place < 6) events
below_from [] all k d within = absurd (omega (arith, within))
below_from (e ∷ es) all zero d within = lt_from _ _ (and_parts (nat_lt e.place 6) _ all).0
below_from (e ∷ es) all (suc k) d within = below_from es (and_parts (nat_lt e.place 6) _ all).1 k d (omega (arith, within))

-- the events of a reading are of the six thresholds
pub places_of : (s : Comparator) (beyond : List Bool) (reading : ℕ) → All (λ (e : Event). e.place < 6) (events_of s beyond reading)
places_of s beyond reading = All-filter (is_made s beyond reading) (λ (e : Event). e.place < 6) (events_below 6) (below_from (events_below 6) refl)
