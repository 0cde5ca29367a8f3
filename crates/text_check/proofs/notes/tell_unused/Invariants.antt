use Rattle.std.proofs.Common.{◌≡◌, take}
use Rattle.toml.specs.View.{table_view}
use Rattle.text_check.specs.Known.{has_one}
use Rattle.text_check.proofs.notes.tell_unused.Given as goal

abbrev pub invariant-loop-field : goal.invariant-loop-field
invariant-loop-field l = l.told ≡ has_one (take l.field-index l.fields) (table_view l.table)
