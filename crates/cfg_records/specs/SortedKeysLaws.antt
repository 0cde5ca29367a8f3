-- A list of keys has at most one proof that it is in order.
use Rattle.std.proofs.Props.{props}
use Rattle.std.specs.Prelude.{List}
use Rattle.std.specs.Ordering.{Ordering-set}
use Rattle.cfg_records.specs.SortedKeys.{Entry, AreRising}

pub AreRising-prop : (entries : List Entry) → IsProp (AreRising entries)
AreRising-prop entries = hlevel (props, Ordering-set)
