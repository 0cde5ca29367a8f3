use Rattle.std.proofs.Common.{◌≤◌, Some, length, subst, sym}
use Rattle.mctp_net.specs.Assembly.{name_of}
use Rattle.mctp_net.specs.Places.{IsPlaceOf}
use Rattle.mctp_net.proofs.Placed.{some-of, has-place, place-room, ends}
use Rattle.mctp_net.proofs.placing.end.Goals as goal

pub unwrap-place-requires : goal.unwrap-place-requires
unwrap-place-requires c =
    some-of c.args.place (λ none. has-place c.args.packet.now c.args.places.now.items c.requires.fits c.if-packet.false
    (subst (IsPlaceOf (Some (name_of c.args.packet.now.envelope)) c.args.places.now.items) none c.requires.place))

pub finish-requires : goal.finish-requires
finish-requires c =
    let at : IsPlaceOf (Some (name_of c.args.packet.now.envelope)) c.args.places.now.items (Some c.unwrap-place.result) = subst (IsPlaceOf (Some (name_of c.args.packet.now.envelope)) c.args.places.now.items) c.unwrap-place.ensures c.requires.place in
    let most : length c.args.packet.now.payload ≤ 64 = rw c.as_slice-payload.ensures.value at c.as_slice-payload.ensures.fit in
    rw c.as_slice-payload.ensures.value
    (place-room c.args.packet.now c.args.places.now.items c.unwrap-place.result c.index_mut.result.now c.requires.sound at c.index_mut.ensures.value c.requires.fits c.if-packet.false most)

pub returns-clause-sound : goal.returns-clause-sound
returns-clause-sound c =
    let at : IsPlaceOf (Some (name_of c.args.packet.now.envelope)) c.args.places.now.items (Some c.unwrap-place.result) = subst (IsPlaceOf (Some (name_of c.args.packet.now.envelope)) c.args.places.now.items) c.unwrap-place.ensures c.requires.place in
    let most : length c.args.packet.now.payload ≤ 64 = rw c.as_slice-payload.ensures.value at c.as_slice-payload.ensures.fit in
    (ends c.args.packet.now c.args.places.now.items c.unwrap-place.result c.index_mut.result.now c.requires.sound at c.index_mut.ensures.value c.finish.new.self c.requires.fits c.if-packet.false most
    (rw (sym c.as_slice-payload.ensures.value) c.finish.ensures)).1

pub returns-clause-after : goal.returns-clause-after
returns-clause-after c =
    let at : IsPlaceOf (Some (name_of c.args.packet.now.envelope)) c.args.places.now.items (Some c.unwrap-place.result) = subst (IsPlaceOf (Some (name_of c.args.packet.now.envelope)) c.args.places.now.items) c.unwrap-place.ensures c.requires.place in
    let most : length c.args.packet.now.payload ≤ 64 = rw c.as_slice-payload.ensures.value at c.as_slice-payload.ensures.fit in
    (ends c.args.packet.now c.args.places.now.items c.unwrap-place.result c.index_mut.result.now c.requires.sound at c.index_mut.ensures.value c.finish.new.self c.requires.fits c.if-packet.false most
    (rw (sym c.as_slice-payload.ensures.value) c.finish.ensures)).0
