use Rattle.std.proofs.Common.{inr, ap, ◌∙◌}
use Rattle.std.proofs.lemmas.Result.{err_from_is_err_and}
use Rattle.toml.specs.View.{table_view}
use Rattle.text_fields.specs.Faults.{field_faults}
use Rattle.text_board.specs.declared.tables.TheConstants.{TOP}
use Rattle.text_board.proofs.FileFaults.{top_first}
use Rattle.text_board.proofs.board.board_of.Goals as goal

pub returns-in_err-top : goal.returns-in_err-top
returns-in_err-top c =
    let p = err_from_is_err_and c.from_residual.result c.from_residual.ensures.1 in
    rw (p.1, p.2) (inr (top_first (table_view c.args.tree.now) c.in_err-top.field-0.0 c.in_err-top.ensures.err))

pub board_in-requires-clause-sound : goal.board_in-requires-clause-sound
board_in-requires-clause-sound c = ap (field_faults TOP) c.in_ok-top.ensures.ok ∙ c.in_ok-top.ensures.sound

pub returns : goal.returns
returns c = rw (← c.in_ok-top.ensures.ok) c.board_in.ensures
