use Rattle.record_kinds.proofs.Starts.{starts_sound}
use Rattle.record_kinds.proofs.laws.starts_sound.Goals as goal

pub returns : goal.returns
returns c = starts_sound
