use Rattle.std.proofs.Common.{Some, None, subst, arith}
use Rattle.mctp_net.specs.Assembly.{name_of}
use Rattle.mctp_net.specs.Places.{IsPlaceOf}
use Rattle.mctp_net.proofs.Placed.{placed-open, unplaced-shut}
use Rattle.mctp_net.proofs.placing.used_beside.Goals as goal

pub overflow_sub-result : goal.overflow_sub-result
overflow_sub-result c =
    let at : IsPlaceOf (Some (name_of c.args.packet.now.envelope)) c.args.places.now (Some c.in-Some.field-0) = subst (IsPlaceOf (Some (name_of c.args.packet.now.envelope)) c.args.places.now) c.in-Some.is c.requires.place in
    omega (arith, c.used_count.ensures, (placed-open (name_of c.args.packet.now.envelope) c.args.places.now c.in-Some.field-0 c.requires.sound at).1)

pub returns-in-Some : goal.returns-in-Some
returns-in-Some c =
    let at : IsPlaceOf (Some (name_of c.args.packet.now.envelope)) c.args.places.now (Some c.in-Some.field-0) = subst (IsPlaceOf (Some (name_of c.args.packet.now.envelope)) c.args.places.now) c.in-Some.is c.requires.place in
    omega (arith, c.used_count.ensures, (placed-open (name_of c.args.packet.now.envelope) c.args.places.now c.in-Some.field-0 c.requires.sound at).0)

pub returns-in-None : goal.returns-in-None
returns-in-None c =
    let at : IsPlaceOf (Some (name_of c.args.packet.now.envelope)) c.args.places.now None = subst (IsPlaceOf (Some (name_of c.args.packet.now.envelope)) c.args.places.now) c.in-None.is c.requires.place in
    omega (arith, c.used_count-in-None.ensures, unplaced-shut (name_of c.args.packet.now.envelope) c.args.places.now at)
