-- The events that a reading makes at one threshold.
use Rattle.std.proofs.Common.{◌≡◌, ℕ, List, [], ◌∷◌, ◌++◌, Bool, true, false, not, ◌&&◌, cond, if◌then◌else◌, refl}
use Rattle.std.specs.List.{filter}
use Rattle.sensor_recs.specs.declared.comparator.Comparator.{Comparator}
use Rattle.sensor_recs.specs.declared.comparator.Event.{Event}
use Rattle.sensor_recs.specs.Readings.{is_same, crosses, was_beyond, goes_high, counts, is_made, events_at}

-- the event that a crossing asserts, and the one that it deasserts
abbrev pub asserted : ℕ → Bool → Event
asserted place high = record { place = place; high = high; deasserted = false }

abbrev pub deasserted : ℕ → Bool → Event
deasserted place high = record { place = place; high = not high; deasserted = true }

-- an event, where it counts
abbrev pub where_counted : (Event → Bool) → Event → List Event
where_counted counted event = if counted event then event ∷ [] else []

joined : (b : Bool) (event : Event) (more : List Event) → cond b (event ∷ more) more ≡ (if b then event ∷ [] else []) ++ more
joined true event more = refl
joined false event more = refl

made_where : (counted : Event → Bool) (place : ℕ) (crossed high : Bool) → crossed ≡ true
    → filter (λ (e : Event). (crossed && is_same e.high (if e.deasserted then not high else high)) && counted e) (events_at place)
    ≡ where_counted counted (asserted place high) ++ where_counted counted (deasserted place high)
made_where counted place true true is = joined (counted (asserted place true)) (asserted place true) (where_counted counted (deasserted place true))
made_where counted place true false is = joined (counted (asserted place false)) (asserted place false) (where_counted counted (deasserted place false))
made_where counted place false high is = cc

-- a crossing of the threshold at the place makes these two events, where they count
pub made_at : (s : Comparator) (beyond : List Bool) (reading place : ℕ) → crosses s place (was_beyond beyond place) reading ≡ true
    → filter (is_made s beyond reading) (events_at place)
    ≡ where_counted (counts s) (asserted place (goes_high place (was_beyond beyond place))) ++ where_counted (counts s) (deasserted place (goes_high place (was_beyond beyond place)))
made_at s beyond reading place is = made_where (counts s) place (crosses s place (was_beyond beyond place) reading) (goes_high place (was_beyond beyond place)) is
