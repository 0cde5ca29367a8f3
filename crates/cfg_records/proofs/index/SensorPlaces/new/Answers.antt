use Rattle.cfg_records.proofs.Nowhere.{nowhere_in}
use Rattle.cfg_records.proofs.index.SensorPlaces.new.Goals as goal

pub returns : goal.returns
returns c table number = nowhere_in 3 256 table number
