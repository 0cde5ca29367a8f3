use Rattle.std.proofs.Common.{take}
use Rattle.report_words.specs.TableNames.{AreWanted}
use Rattle.report_words.proofs.table_names.Names.wanted.Given as goal

-- the names of the records before are wanted
abbrev pub invariant-loop-key : goal.invariant-loop-key
invariant-loop-key l = AreWanted (take l.key-index l.keys) l.names
