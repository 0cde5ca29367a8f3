use Rattle.test_records.proofs.StoresSet.{changes_together}
use Rattle.test_records.proofs.tests.by_definition.stores_change_together.Goals as goal

pub returns : goal.returns
returns c = changes_together
