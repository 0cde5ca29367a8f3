use Rattle.std.proofs.Common.{◌≡◌, ◌∙◌, Some, None, sym, ap, subst}
use Rattle.mctp_net.specs.Assembly.{name_of, drop_cause, ended, kept_with, after_where}
use Rattle.mctp_net.specs.Places.{assemblies_in, seen, AreSoundPlaces, IsPlaceOf, under_in}
use Rattle.mctp_net.specs.Cut.{EachFrom}
use Rattle.mctp_net.specs.Sound.{IsWaitingAt}
use Rattle.mctp_net.proofs.Causes.{passes}
use Rattle.mctp_net.proofs.Placed.{placed-waits}
use Rattle.mctp_net.proofs.Wholes.{whole-shown, shown-some}
use Rattle.mctp_net.proofs.Taking.{drops-whole, drops-waiting, drops-after, ends-waiting, ends-after, keeps-whole, keeps-waiting, keeps-after}
use Rattle.mctp_net.proofs.assembler.Assembler.take.Goals as goal

pub drop_for-requires-clause-place : goal.drop_for-requires-clause-place
drop_for-requires-clause-place c =
    subst (λ n. IsPlaceOf (Some n) c.self.inside.places.items c.place_of-place.result) c.name.ensures
    (subst (λ ps. IsPlaceOf (Some c.name.result) ps c.place_of-place.result) c.as_slice.ensures.value c.place_of-place.ensures)

pub end-self-inside-requires-clause-fits : goal.end-self-inside-requires-clause-fits
end-self-inside-requires-clause-fits c =
    (passes c.args.own (assemblies_in c.self.inside.places.items None) c.args.packet.now
    (sym (c.in-None.ensures ∙ ap (λ ps. drop_cause c.args.own (assemblies_in ps None) c.args.packet.now) c.as_slice-2.ensures.value))).1

pub keep-requires-clause-fits : goal.keep-requires-clause-fits
keep-requires-clause-fits c =
    (passes c.args.own (assemblies_in c.self.inside.places.items None) c.args.packet.now
    (sym (c.in-None.ensures ∙ ap (λ ps. drop_cause c.args.own (assemblies_in ps None) c.args.packet.now) c.as_slice-2.ensures.value))).1

pub returns-in-Some : goal.returns-in-Some
returns-in-Some c =
    let inside : c.self.inside.places.items ≡ c.args.self.now.places = ap (λ k. k.places) c.self.view_is in
    let some : Some c.in-Some.cause ≡ drop_cause c.args.own (seen c.args.self.now) c.args.packet.now =
    c.in-Some.ensures ∙ ap (λ ps. drop_cause c.args.own (assemblies_in ps None) c.args.packet.now) (c.as_slice-2.ensures.value ∙ inside) in
    record {
      dropped = some;
      whole = λ m. drops-whole c.args.own (seen c.args.self.now) c.args.packet.now c.in-Some.cause some (assemblies_in c.drop_for.new.places.items None) m;
      some = λ e. absurd cc;
      waiting = drops-waiting c.args.own (seen c.args.self.now) c.args.packet.now c.in-Some.cause some;
      after = drops-after c.args.own c.args.self.now.places c.args.self.now.made c.args.packet.now c.in-Some.cause (assemblies_in c.drop_for.new.places.items None) some
          (c.drop_for.ensures.after ∙ ap (λ ps. after_where (Some c.in-Some.cause) c.args.packet.now (assemblies_in ps None)) inside);
    }

pub returns-in-None : goal.returns-in-None
returns-in-None c =
    let inside : c.self.inside.places.items ≡ c.args.self.now.places = ap (λ k. k.places) c.self.view_is in
    let none : drop_cause c.args.own (seen c.args.self.now) c.args.packet.now ≡ None =
    sym (c.in-None.ensures ∙ ap (λ ps. drop_cause c.args.own (assemblies_in ps None) c.args.packet.now) (c.as_slice-2.ensures.value ∙ inside)) in
    let sound : AreSoundPlaces c.args.self.now.places = subst AreSoundPlaces inside c.self.invariant.0 in
    let at : IsPlaceOf (Some (name_of c.args.packet.now.envelope)) c.args.self.now.places c.place_of-place.result =
    subst (λ n. IsPlaceOf (Some n) c.args.self.now.places c.place_of-place.result) c.name.ensures (subst (λ ps. IsPlaceOf (Some c.name.result) ps c.place_of-place.result) (c.as_slice.ensures.value ∙ inside) c.place_of-place.ensures) in
    let waits : EachFrom IsWaitingAt 0 (under_in c.args.self.now.places (name_of c.args.packet.now.envelope)) = placed-waits (name_of c.args.packet.now.envelope) c.args.self.now.places c.place_of-place.result sound at in
    let after : assemblies_in c.end-self-inside.new.places.items c.end-self-inside.result ≡ ended c.args.packet.now (seen c.args.self.now) =
    c.end-self-inside.ensures.after ∙ ap (λ ps. ended c.args.packet.now (assemblies_in ps None)) inside in
    record {
      dropped = sym none;
      whole = whole-shown c.args.own (seen c.args.self.now) (assemblies_in c.end-self-inside.new.places.items c.end-self-inside.result) c.args.packet.now waits none c.if-packet.true c.end-self-inside.ensures.some c.end-self-inside.ensures.most after;
      some = λ e. shown-some (seen c.args.self.now) (assemblies_in c.end-self-inside.new.places.items c.end-self-inside.result) c.args.packet.now c.end-self-inside.ensures.some after;
      waiting = ends-waiting c.args.own (seen c.args.self.now) c.args.packet.now c.if-packet.true;
      after = ends-after c.args.own (seen c.args.self.now) (assemblies_in c.end-self-inside.new.places.items c.end-self-inside.result) c.args.packet.now none c.if-packet.true after;
    }

pub returns-in-None-2 : goal.returns-in-None-2
returns-in-None-2 c =
    let inside : c.self.inside.places.items ≡ c.args.self.now.places = ap (λ k. k.places) c.self.view_is in
    let none : drop_cause c.args.own (seen c.args.self.now) c.args.packet.now ≡ None =
    sym (c.in-None.ensures ∙ ap (λ ps. drop_cause c.args.own (assemblies_in ps None) c.args.packet.now) (c.as_slice-2.ensures.value ∙ inside)) in
    let after : assemblies_in c.keep.new.places.items None ≡ kept_with c.args.packet.now (seen c.args.self.now) =
    c.keep.ensures.after ∙ ap (λ ps. kept_with c.args.packet.now (assemblies_in ps None)) inside in
    record {
      dropped = sym none;
      whole = λ m. keeps-whole c.args.own (seen c.args.self.now) (assemblies_in c.keep.new.places.items None) c.args.packet.now m c.if-packet.false;
      some = λ e. absurd cc;
      waiting = keeps-waiting c.args.own (seen c.args.self.now) c.args.packet.now none c.if-packet.false;
      after = keeps-after c.args.own (seen c.args.self.now) (assemblies_in c.keep.new.places.items None) c.args.packet.now none c.if-packet.false after;
    }

pub invariant_of-self : goal.invariant_of-self
invariant_of-self c = (c.drop_for.ensures.sound, tt)

pub invariant_of-self-in-None-2 : goal.invariant_of-self-in-None-2
invariant_of-self-in-None-2 c = (c.keep.ensures.sound, tt)

pub invariant_of-self-then-packet : goal.invariant_of-self-then-packet
invariant_of-self-then-packet c = (c.end-self-inside.ensures.sound, c.end-self-inside.ensures.made)
