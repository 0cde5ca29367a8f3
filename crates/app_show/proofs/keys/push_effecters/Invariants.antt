use Rattle.std.proofs.Common.{◌≡◌, ◌-◌, ◌<◌, ◌≤◌, ◌++◌}
use Rattle.std.specs.List.{flat_map, range_with_len}
use Rattle.app_show.specs.Keys.{id_keys}
use Rattle.app_show.proofs.keys.push_effecters.Given as goal

abbrev pub invariant-loop-id : goal.invariant-loop-id
invariant-loop-id l = record {
  begun : l.fn.ids.first ≤ l.id;
  few : l.fn.ids.last < l.fn.ids.first → l.id ≡ l.fn.ids.first;
  pushed : l.keys.items ≡ l.fn.keys.items ++ flat_map id_keys (range_with_len l.fn.ids.first (l.id - l.fn.ids.first));
}
