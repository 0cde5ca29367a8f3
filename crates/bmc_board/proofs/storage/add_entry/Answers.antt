use Rattle.std.proofs.Common.{List, ℕ, ◌∙◌, ap}
use Rattle.sel_log.specs.Log.{after_add}
use Rattle.bmc_board.proofs.storage.add_entry.Goals as goal

pub returns-in-Ok-clause-left : goal.returns-in-Ok-clause-left
returns-in-Ok-clause-left g c = c.add.ensures.after ∙ ap (λ (r : List ℕ). after_add c.args.log.now r) c.record_in.ensures
