-- A list has at most one proof that its places are those of its keys.
use Rattle.std.proofs.Props.{props}
use Rattle.std.specs.Prelude.{ℕ, List, Option}
use Rattle.record_base.specs.declared.key.Key.{Key}
use Rattle.cfg_records.specs.Records.{Pair}
use Rattle.cfg_records.specs.Places.{ArePlaced}

pub ArePlaced-prop : (pairs : List Pair) (places : Key → Option ℕ) → IsProp (ArePlaced pairs places)
ArePlaced-prop pairs places = hlevel props
