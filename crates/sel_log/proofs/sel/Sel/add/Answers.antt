use Rattle.std.proofs.Common.{arith}
use Rattle.std.proofs.Math.ListN.{length-append}
use Rattle.sel_log.proofs.Ids.{counted_push}
use Rattle.sel_log.proofs.sel.Sel.add.Goals as goal

pub invariant_of-self-2 : goal.invariant_of-self-2
invariant_of-self-2 c = record {
  within = c.self.invariant.within;
  few = rw c.push_reserved.ensures.items (simp length-append (omega arith));
  reserved = rw c.push_reserved.ensures.capacity c.self.invariant.reserved;
  counted = rw c.push_reserved.ensures.items (counted_push 1 c.self.inside.records.items c.kept.result c.self.invariant.counted (omega (arith, c.kept.ensures.id)));
}
