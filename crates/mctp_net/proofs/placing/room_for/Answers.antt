use Rattle.std.proofs.Common.{Some, None, inl, inr, subst, arith}
use Rattle.mctp_net.specs.Assembly.{name_of}
use Rattle.mctp_net.specs.Places.{IsPlaceOf}
use Rattle.mctp_net.proofs.Placed.{some-of, has-free, unplaced-shut}
use Rattle.mctp_net.proofs.placing.room_for.Goals as goal

pub unwrap-requires : goal.unwrap-requires
unwrap-requires c =
    let at : IsPlaceOf (Some (name_of c.args.packet.now.envelope)) c.args.places.now None = subst (IsPlaceOf (Some (name_of c.args.packet.now.envelope)) c.args.places.now) c.in-None.is c.requires.place in
    some-of c.place_of.result (λ none. has-free c.args.places.now c.requires.sound (omega (arith, c.requires.room, unplaced-shut (name_of c.args.packet.now.envelope) c.args.places.now at)) (subst (IsPlaceOf None c.args.places.now) none c.place_of.ensures))

pub returns-in-Some : goal.returns-in-Some
returns-in-Some c = inl (subst (IsPlaceOf (Some (name_of c.args.packet.now.envelope)) c.args.places.now) c.in-Some.is c.requires.place)

pub returns-in-None : goal.returns-in-None
returns-in-None c = inr (
  subst (IsPlaceOf (Some (name_of c.args.packet.now.envelope)) c.args.places.now) c.in-None.is c.requires.place,
  subst (IsPlaceOf None c.args.places.now) c.unwrap.ensures c.place_of.ensures,
)
