use Rattle.bmc_board.specs.BiosTables.{values_in}
use Rattle.bmc_board.proofs.BiosTableFacts.{shown_tell, shown_values}
use Rattle.bmc_board.proofs.board.Board.keep_values.Goals as goal

pub invariant_of-self : goal.invariant_of-self
invariant_of-self g c =
    let board = c.args.self.now in
    let items = board.setup.attributes.items in
    let values = values_in (g.S.Store.records board.records.store) in
    record {
      sound = board.sound;
      tell = shown_tell items board.tables c.show.new.self values board.tell c.show.ensures.shown;
      is_kept = shown_values items board.tables c.show.new.self values board.tell c.show.ensures.shown;
    }
