use Rattle.mctp_net.proofs.Soundness.{sound-after}
use Rattle.mctp_net.proofs.laws.stays_sound.Goals as goal

pub returns-clause-next : goal.returns-clause-next
returns-clause-next c = sound-after
