use Rattle.std.proofs.Common.{◌≡◌, ◌∙◌, Some, subst}
use Rattle.mctp_net.specs.declared.place.Place.{Place}
use Rattle.mctp_net.specs.Assembly.{name_of}
use Rattle.mctp_net.specs.Places.{IsRoomFor}
use Rattle.mctp_net.proofs.Placed.{room-alone, begins}
use Rattle.mctp_net.proofs.placing.begin.Goals as goal

pub returns-clause-sound : goal.returns-clause-sound
returns-clause-sound c =
    let for = room-alone (name_of c.args.packet.now.envelope) c.args.places.now.items c.room_for-place.result c.index_mut.result.now c.requires.sound (subst (λ ps. IsRoomFor (name_of c.args.packet.now.envelope) ps c.room_for-place.result) c.as_slice.ensures.value c.room_for-place.ensures) in
    let now : c.begin.new.self ≡ record { name = Some (name_of c.args.packet.now.envelope); bytes = c.args.packet.now.payload } =
    c.begin.ensures ∙ (λ i. let p : Place = record { name = Some (c.name.ensures i); bytes = c.as_slice-2.ensures.value i } in p) in
    (begins c.args.packet.now c.args.places.now.items c.room_for-place.result c.index_mut.result.now c.begin.new.self c.requires.sound for.0 for.1 for.2 c.requires.fits c.requires.more c.requires.start now).1

pub returns-clause-after : goal.returns-clause-after
returns-clause-after c =
    let for = room-alone (name_of c.args.packet.now.envelope) c.args.places.now.items c.room_for-place.result c.index_mut.result.now c.requires.sound (subst (λ ps. IsRoomFor (name_of c.args.packet.now.envelope) ps c.room_for-place.result) c.as_slice.ensures.value c.room_for-place.ensures) in
    let now : c.begin.new.self ≡ record { name = Some (name_of c.args.packet.now.envelope); bytes = c.args.packet.now.payload } =
    c.begin.ensures ∙ (λ i. let p : Place = record { name = Some (c.name.ensures i); bytes = c.as_slice-2.ensures.value i } in p) in
    (begins c.args.packet.now c.args.places.now.items c.room_for-place.result c.index_mut.result.now c.begin.new.self c.requires.sound for.0 for.1 for.2 c.requires.fits c.requires.more c.requires.start now).0
