use Rattle.std.proofs.Common.{arith}
use Rattle.report_words.proofs.Wanted.{none_wanted, wants_more}
use Rattle.report_words.proofs.table_names.Names.wanted.Goals as goal

pub loop-key-init : goal.loop-key-init
loop-key-init c = none_wanted c.new-names.result c.new-names.ensures.sensors c.new-names.ensures.attributes

pub loop-key-preserved : goal.loop-key-preserved
loop-key-preserved c =
    wants_more c.args.keys.now c.loop-key.key-index c.key-item.result c.loop-key.names c.want.new.self (omega arith) c.key-item.is c.loop-key.invariant c.in_ok-want.ensures
