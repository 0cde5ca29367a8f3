use Rattle.std.proofs.Common.{arith}
use Rattle.sel_log.proofs.Ids.{asked_by_id}
use Rattle.sel_log.proofs.sel.place_of.Goals as goal

pub returns-in_default : goal.returns-in_default
returns-in_default c = rw c.from.ensures (asked_by_id c.args.records.now c.args.number c.requires (omega arith) (omega arith))
