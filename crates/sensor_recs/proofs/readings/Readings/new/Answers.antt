use Rattle.std.proofs.Common.{rules}
use Rattle.sensor_recs.proofs.readings.Readings.new.Goals as goal

pub returns : goal.returns
returns c = c.in_ok-vec.ensures.items_if_clones_equal (λ y is. search rules)
