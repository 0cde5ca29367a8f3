use Rattle.std.proofs.Common.{sym, arith}
use Rattle.sel_log.proofs.Ids.{behind_last, behind_other}
use Rattle.sel_log.proofs.sel.id_behind.Goals as goal

pub returns-then-place-records : goal.returns-then-place-records
returns-then-place-records c r there = sym (behind_last c.args.records.now c.args.place r c.requires.counted there (omega arith))

pub returns-else-place-records : goal.returns-else-place-records
returns-else-place-records c r there = sym (behind_other c.args.records.now c.args.place r c.requires.counted there (omega arith))
