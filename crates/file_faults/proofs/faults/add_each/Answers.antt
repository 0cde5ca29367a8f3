use Rattle.std.proofs.Common.{ap, sym, take, map, ◌∙◌}
use Rattle.toml.specs.View.{table_view, view}
use Rattle.text_fields.specs.Trees.{or_empty, table_of}
use Rattle.file_faults.specs.Firsts.{fault_of}
use Rattle.file_faults.proofs.Tables.{one_more}
use Rattle.file_faults.proofs.faults.add_each.Goals as goal
use Rattle.file_faults.proofs.faults.add_each.Goals.{in-Some-2+in_ok-push, in_default-2}

pub loop-place-preserved : goal.loop-place-preserved
loop-place-preserved c =
    let file = table_view c.args.tree.now in
    let value = c.index-values-place.result in
    let before = map table_of (map view (take c.loop-place.place c.args.values.now)) in
    let same = ap or_empty (sym c.in-Some.ensures) in
    elim c.match-branch-2.branch [
      | in-Some-2+in_ok-push w ↦
          rw w.faults-is
          (rw w.in_ok-push.ensures.items
          (one_more file c.loop-place.faults.items c.args.group c.loop-place.place c.args.values.now value w.in-Some-2.fault c.loop-place-test.true c.index-values-place.is c.requires.tables
          c.loop-place.invariant (ap (fault_of c.args.group file before) same ∙ sym c.in_ok-fault.ensures ∙ w.in-Some-2.is)))
      | in_default-2 w ↦ rw w.faults-is c.loop-place.invariant
    ]
