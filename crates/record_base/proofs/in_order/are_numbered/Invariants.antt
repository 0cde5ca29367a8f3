use Rattle.std.proofs.Common.{◌≡◌, ◌≤◌, ◌+◌, take}
use Rattle.record_base.specs.InOrder.{AreNumbered}
use Rattle.record_base.proofs.in_order.are_numbered.Given as goal

abbrev pub invariant-loop-item : goal.invariant-loop-item
invariant-loop-item g l = record {
  next : l.next ≡ l.first + l.item-index;
  bounded : l.next ≤ 65536;
  numbered : AreNumbered g.T.Numbered.number_of l.first (take l.item-index l.items);
}
