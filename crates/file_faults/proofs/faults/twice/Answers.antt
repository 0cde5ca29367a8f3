use Rattle.std.proofs.Common.{true, false, sym, ap, ◌∙◌}
use Rattle.std.specs.List.{list_any}
use Rattle.toml.specs.View.{table_view, view}
use Rattle.text_fields.specs.Trees.{number_in, table_of}
use Rattle.text_board.specs.Faults.{same_number}
use Rattle.file_faults.proofs.Tables.{is_twice}
use Rattle.file_faults.proofs.faults.twice.Goals as goal

pub returns-then-is_taken : goal.returns-then-is_taken
returns-then-is_taken c =
    let named = c.in-Some.field in
    let any = c.is_taken.ensures ∙ ap (λ w. list_any (λ value. same_number (number_in named (table_of (view value))) w) c.args.before.now) c.number.ensures in
    is_twice c.args.group c.args.before.now (table_view c.args.table.now) named c.is_taken.result true (sym c.number_of.ensures ∙ c.in-Some.is) any c.if-is_taken.true

pub returns-else-is_taken : goal.returns-else-is_taken
returns-else-is_taken c =
    let named = c.in-Some.field in
    let any = c.is_taken.ensures ∙ ap (λ w. list_any (λ value. same_number (number_in named (table_of (view value))) w) c.args.before.now) c.number.ensures in
    is_twice c.args.group c.args.before.now (table_view c.args.table.now) named c.is_taken.result false (sym c.number_of.ensures ∙ c.in-Some.is) any c.if-is_taken.false
