use Rattle.std.proofs.Common.{refl}
use Rattle.bmc_core.proofs.Rooms.{kept_here}
use Rattle.bmc_core.proofs.Circles.{at_most_64}
use Rattle.bmc_core.proofs.window.Window.keep.Goals as goal

pub returns : goal.returns
returns g c =
    kept_here g.row.NUMBERS c.args.number c.from.result c.args.number c.next_half-forgotten.result _ c.set.new.self _ _ c.self.view_is c.set.ensures c.from.ensures refl
    (at_most_64 g.row.NUMBERS c.self.invariant.1) c.self.invariant.0 c.requires.on c.next_half-forgotten.type_inv c.next_half-forgotten.ensures
