use Rattle.std.proofs.Common.{arith}
use Rattle.report_words.proofs.Naming.{named_more}
use Rattle.report_words.proofs.table_names.Names.name_attributes.Goals as goal

pub loop-place-preserved : goal.loop-place-preserved
loop-place-preserved c = record {
  named = named_more c.args.attributes.now c.args.strings.now c.loop-place.place c.args.self.now.attributes.items c.loop-place.self.attributes.items c.index_mut.result.now c.name_by.new.self
      c.index_mut.ensures.value (omega (arith, c.loop-place-test.true, c.loop-place.invariant.named.as_many)) c.loop-place.invariant.named c.in_ok-name_by.ensures;
  sensors = c.loop-place.invariant.sensors;
}
