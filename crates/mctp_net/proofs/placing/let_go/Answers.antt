use Rattle.std.proofs.Common.{Some, subst}
use Rattle.mctp_net.specs.Assembly.{name_of}
use Rattle.mctp_net.specs.Places.{IsPlaceOf}
use Rattle.mctp_net.proofs.Placed.{lets-go, stays-closed}
use Rattle.mctp_net.proofs.placing.let_go.Goals as goal

pub returns-in-Some-clause-sound : goal.returns-in-Some-clause-sound
returns-in-Some-clause-sound c =
    let at : IsPlaceOf (Some (name_of c.args.packet.now.envelope)) c.args.places.now.items (Some c.in-Some.place) = subst (IsPlaceOf (Some (name_of c.args.packet.now.envelope)) c.args.places.now.items) c.in-Some.is c.requires.place in
    (lets-go c.args.packet.now c.args.places.now.items c.in-Some.place c.index_mut.result.now c.close.new.self c.requires.sound at c.index_mut.ensures.value c.close.ensures).1

pub returns-in-Some-clause-after : goal.returns-in-Some-clause-after
returns-in-Some-clause-after c =
    let at : IsPlaceOf (Some (name_of c.args.packet.now.envelope)) c.args.places.now.items (Some c.in-Some.place) = subst (IsPlaceOf (Some (name_of c.args.packet.now.envelope)) c.args.places.now.items) c.in-Some.is c.requires.place in
    (lets-go c.args.packet.now c.args.places.now.items c.in-Some.place c.index_mut.result.now c.close.new.self c.requires.sound at c.index_mut.ensures.value c.close.ensures).0

pub returns-in-None-clause-after : goal.returns-in-None-clause-after
returns-in-None-clause-after c =
    stays-closed c.args.packet.now c.args.places.now.items
    (subst (IsPlaceOf (Some (name_of c.args.packet.now.envelope)) c.args.places.now.items) c.in-None.is c.requires.place)
