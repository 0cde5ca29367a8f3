use Rattle.std.proofs.Common.{◌≡◌, ℕ, List, ◌∙◌, subst}
use Rattle.bmc_board.specs.Gives.{GivesReply}
use Rattle.bmc_board.specs.BiosTables.{values_in, table_bytes, asked_part}
use Rattle.bmc_board.proofs.BiosTableFacts.{kept_is}
use Rattle.bmc_board.proofs.board.Board.show_kept.Goals as goal

pub returns : goal.returns
returns g c =
    let board = c.args.self.now in
    let items = board.setup.attributes.items in
    let values = values_in (g.S.Store.records board.records.store) in
    let given : c.table.result.now ≡ table_bytes items values c.args.table = c.table.ensures ∙ kept_is items board.tables values c.args.table board.kept board.tell board.is_kept c.requires.kept in
    subst (λ (t : List ℕ). GivesReply c.show_part.result (g.B.Buffer.bytes c.args.to.now) (g.B.Buffer.bytes c.show_part.new.to) (asked_part c.args.body.now t)) given c.show_part.ensures
