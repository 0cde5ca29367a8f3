use Rattle.model_headline.proofs.laws.series_take_parts.Goals as goal
use Rattle.model_headline.proofs.CleanGets.{takes_parts}

pub returns : goal.returns
returns c = takes_parts
