-- Which buses requests go on, one after another.
use Rattle.std.specs.Prelude.{◌||◌}
use Rattle.std.proofs.Common.{◌≡◌, ◌+◌, ◌++◌, ℕ, Bool, true, false, List, [], ◌∷◌, Some, map, take, refl}
use Rattle.std.specs.List.{slice_get}
use Rattle.std.proofs.lemmas.List.{take_more, map-append}
use Rattle.std.proofs.lemmas.Option.{slice_get_within, get_or_from_slice_get}
use Rattle.two_wire.specs.declared.Bus.{Bus}
use Rattle.model_undo.specs.Machine.{same_bus}
use Rattle.app_run.specs.Buses.{is_used}

or_false : (a : Bool) → (a || false) ≡ a
or_false true = refl
or_false false = refl

or_more : (a b c d : Bool) → b ≡ (c || d) → (a || b) ≡ ((a || c) || d)
or_more true b c d is = refl
or_more false b c d is = is

-- one bus more
is_used_more : (bus : Bus) (all : List Bus) (other : Bus) → is_used bus (all ++ other ∷ []) ≡ (is_used bus all || same_bus bus other)
is_used_more bus [] other = or_false (same_bus bus other)
is_used_more bus (first ∷ all) other = or_more (same_bus bus first) (is_used bus (all ++ other ∷ [])) (is_used bus all) (same_bus bus other) (is_used_more bus all other)

module _ {A : Type 0} (bus_at : A → Bus) where
  one_more : (all : List A) (place : ℕ) (one : A) → slice_get all place ≡ Some one → map bus_at (take (place + 1) all) ≡ map bus_at (take place all) ++ bus_at one ∷ []
  one_more all place one at = rw (take_more all place one (slice_get_within all place one at), get_or_from_slice_get all place one one at, map-append)

  -- the bus of one more
  pub used_more : (bus : Bus) (all : List A) (place : ℕ) (one : A) (used : Bool) → slice_get all place ≡ Some one → used ≡ is_used bus (map bus_at (take place all))
      → (used || same_bus bus (bus_at one)) ≡ is_used bus (map bus_at (take (place + 1) all))
  used_more bus all place one used at so_far =
      rw (so_far, one_more all place one at, is_used_more bus (map bus_at (take place all)) (bus_at one))
