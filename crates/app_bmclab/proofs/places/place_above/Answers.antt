use Rattle.std.proofs.Common.{◌≤◌, arith}
use Rattle.app_bmclab.proofs.NamedPlaces.{none_above}
use Rattle.app_bmclab.proofs.places.place_above.Goals as goal

pub returns-else-place-low-clause-none : goal.returns-else-place-low-clause-none
returns-else-place-low-clause-none c =
    let most : c.in-Some.number ≤ c.args.low = grind (arith, c.if-place-low.false) in
    none_above c.args.low c.args.word.now c.in-Some.number c.in-Some.ensures.some.0 c.in-Some.ensures.some.1 most
