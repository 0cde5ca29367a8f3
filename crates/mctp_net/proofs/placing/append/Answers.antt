use Rattle.std.proofs.Common.{Some, subst, sym, arith}
use Rattle.mctp_net.specs.Assembly.{name_of}
use Rattle.mctp_net.specs.Places.{IsPlaceOf}
use Rattle.mctp_net.proofs.Placed.{some-of, has-place, place-room, appends}
use Rattle.mctp_net.proofs.placing.append.Goals as goal

pub unwrap-place-requires : goal.unwrap-place-requires
unwrap-place-requires c =
    some-of c.args.place (λ none. has-place c.args.packet.now c.args.places.now.items c.requires.fits c.requires.start
    (subst (IsPlaceOf (Some (name_of c.args.packet.now.envelope)) c.args.places.now.items) none c.requires.place))

pub append-requires : goal.append-requires
append-requires c =
    let at : IsPlaceOf (Some (name_of c.args.packet.now.envelope)) c.args.places.now.items (Some c.unwrap-place.result) = subst (IsPlaceOf (Some (name_of c.args.packet.now.envelope)) c.args.places.now.items) c.unwrap-place.ensures c.requires.place in
    rw c.as_slice.ensures.value
    (place-room c.args.packet.now c.args.places.now.items c.unwrap-place.result c.index_mut.result.now c.requires.sound at c.index_mut.ensures.value c.requires.fits c.requires.start (omega (arith, c.requires.fits.full c.requires.more)))

pub returns-clause-sound : goal.returns-clause-sound
returns-clause-sound c =
    let at : IsPlaceOf (Some (name_of c.args.packet.now.envelope)) c.args.places.now.items (Some c.unwrap-place.result) = subst (IsPlaceOf (Some (name_of c.args.packet.now.envelope)) c.args.places.now.items) c.unwrap-place.ensures c.requires.place in
    (appends c.args.packet.now c.args.places.now.items c.unwrap-place.result c.index_mut.result.now c.requires.sound at c.index_mut.ensures.value c.append.new.self c.requires.fits c.requires.more c.requires.start
    (rw (sym c.as_slice.ensures.value) c.append.ensures)).1

pub returns-clause-after : goal.returns-clause-after
returns-clause-after c =
    let at : IsPlaceOf (Some (name_of c.args.packet.now.envelope)) c.args.places.now.items (Some c.unwrap-place.result) = subst (IsPlaceOf (Some (name_of c.args.packet.now.envelope)) c.args.places.now.items) c.unwrap-place.ensures c.requires.place in
    (appends c.args.packet.now c.args.places.now.items c.unwrap-place.result c.index_mut.result.now c.requires.sound at c.index_mut.ensures.value c.append.new.self c.requires.fits c.requires.more c.requires.start
    (rw (sym c.as_slice.ensures.value) c.append.ensures)).0
