use Rattle.app_look.specs.Asking.{AsksTables}
use Rattle.app_look.specs.AttributeTables.{ReadsParts}
use Rattle.app_look.proofs.attributes.read_table.Given as goal

-- parts of tables alone were asked for, and so many parts of this one
abbrev pub invariant-loop : goal.invariant-loop
invariant-loop l = record {
  tables : AsksTables l.fn.session l.session;
  parts : ReadsParts l.counter l.fn.table l.fn.session l.session l.bytes.items l.transfer;
}
