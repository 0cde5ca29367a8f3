use Rattle.test_records.proofs.PartsSet.{goes_in_three}
use Rattle.test_records.proofs.tests.by_definition.text_goes_in_three.Goals as goal

pub returns : goal.returns
returns c = goes_in_three
