use Rattle.std.proofs.Common.{◌≡◌, ◌+◌, ◌*◌, ◌≤◌, take, vec_len, vec_capacity}
use Rattle.record_base.specs.AttributeSizes.{most_value}
use Rattle.bios_attr.specs.Values.{value_entries}
use Rattle.bios_attr.proofs.Contents.{AreShown}
use Rattle.bios_attr.proofs.current_values.show_values.Given as goal

abbrev pub invariant-loop-head : goal.invariant-loop-head
invariant-loop-head g l = (l.table.items ≡ value_entries (g.V.CurrentValues.value_of l.current) (take l.head-index l.heads))
    × (vec_len l.table ≤ (3 + most_value) * l.head-index)
    × (vec_capacity l.fn.table ≤ vec_capacity l.table)
    × AreShown (g.V.CurrentValues.value_of l.current) (take l.head-index l.heads)
