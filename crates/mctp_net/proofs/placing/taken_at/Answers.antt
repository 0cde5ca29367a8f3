use Rattle.std.proofs.Common.{Some, None, length, subst, sym, ◌∙◌, ap}
use Rattle.mctp_net.specs.Assembly.{name_of}
use Rattle.mctp_net.specs.Places.{IsPlaceOf}
use Rattle.mctp_net.proofs.Placed.{placed-count, unplaced}
use Rattle.mctp_net.proofs.placing.taken_at.Goals as goal

pub returns-in-Some : goal.returns-in-Some
returns-in-Some c =
    let at : IsPlaceOf (Some (name_of c.args.packet.now.envelope)) c.args.places.now (Some c.in-Some.place) = subst (IsPlaceOf (Some (name_of c.args.packet.now.envelope)) c.args.places.now) c.in-Some.is c.requires.place in
    c.count.ensures.value ∙ placed-count (name_of c.args.packet.now.envelope) c.args.places.now c.in-Some.place c.index-places-place.result c.requires.sound at c.index-places-place.is

pub returns-in-None : goal.returns-in-None
returns-in-None c =
    let at : IsPlaceOf (Some (name_of c.args.packet.now.envelope)) c.args.places.now None = subst (IsPlaceOf (Some (name_of c.args.packet.now.envelope)) c.args.places.now) c.in-None.is c.requires.place in
    sym (ap length (unplaced (name_of c.args.packet.now.envelope) c.args.places.now at))
