use Rattle.cfg_records.proofs.BoardPairs.{pairs_differ, lengths_fit}
use Rattle.cfg_records.proofs.board_file.BoardFile.records.Goals as goal

pub returns-clause-differ : goal.returns-clause-differ
returns-clause-differ c = pairs_differ c.args.self.now

pub returns-clause-fit : goal.returns-clause-fit
returns-clause-fit c = lengths_fit c.args.self.now
