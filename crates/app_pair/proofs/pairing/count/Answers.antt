use Rattle.bmc_board.specs.State.{state_of}
use Rattle.app_pair.proofs.Counting.{counts_changed}
use Rattle.app_pair.proofs.pairing.count.Goals as goal

pub returns-in_ok-account_of-in-Ok-pair_over-clause-changed : goal.returns-in_ok-account_of-in-Ok-pair_over-clause-changed
returns-in_ok-account_of-in-Ok-pair_over-clause-changed g c asked lists =
    let begun = c.in-Ok.ensures in
    counts_changed asked c.args.file c.in-Ok.begun.board.setup (state_of c.in-Ok.begun.board) c.in-Ok.begun.start.items c.in-Ok-pair_over.paired.served _ _
    begun.setup begun.state begun.start c.in-Ok-pair_over.ensures.served c.in_ok-account_of-in-Ok-pair_over.ensures.changed (c.in_ok-account_of-in-Ok-pair_over.ensures.list asked c.args.file lists)
