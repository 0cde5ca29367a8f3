use Rattle.std.proofs.Common.{sym, ◌∙◌}
use Rattle.toml.specs.View.{table_view}
use Rattle.file_faults.proofs.Tables.{only_one}
use Rattle.file_faults.proofs.faults.add_table.Goals as goal

pub returns-in_ok-push : goal.returns-in_ok-push
returns-in_ok-push c =
    rw c.in_ok-push.ensures.items
    (only_one (table_view c.args.tree.now) c.args.faults.now.items c.args.group (table_view c.args.table.now) c.in-Some.fault c.requires.only c.requires.firsts
    (sym c.in_ok-fault.ensures ∙ c.in-Some.is))
