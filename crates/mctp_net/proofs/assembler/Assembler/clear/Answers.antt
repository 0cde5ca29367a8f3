use Rattle.std.proofs.Common.{◌∙◌}
use Rattle.mctp_net.proofs.Placed.{all-free}
use Rattle.mctp_net.proofs.assembler.Assembler.clear.Goals as goal

pub invariant_of-self : goal.invariant_of-self
invariant_of-self c =
    ((all-free c.close_all.new.places.items (c.close_all.ensures.length ∙ c.self.invariant.0.eight) c.close_all.ensures.free c.close_all.ensures.fits).0, tt)

pub returns : goal.returns
returns c =
    (all-free c.close_all.new.places.items (c.close_all.ensures.length ∙ c.self.invariant.0.eight) c.close_all.ensures.free c.close_all.ensures.fits).1
