use Rattle.test_records.proofs.WholeSet.{sets_whole}
use Rattle.test_records.proofs.tests.by_definition.watchdog_is_set.Goals as goal

pub returns : goal.returns
returns c = sets_whole
