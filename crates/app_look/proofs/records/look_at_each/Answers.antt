use Rattle.std.proofs.Common.{Option, length, inr, refl, subst, arith}
use Rattle.std.proofs.lemmas.Option.{slice_get_read}
use Rattle.app_look.specs.declared.records.Found.{Found}
use Rattle.app_look.specs.Findings.{Finds}
use Rattle.app_look.proofs.Findings.{each_more, none_looked, one_longer}
use Rattle.app_look.proofs.records.look_at_each.Goals as goal

pub returns-in_default-clause-stopped : goal.returns-in_default-clause-stopped
returns-in_default-clause-stopped c = (0, none_looked c.args.keys.now c.args.session.now)

pub loop-place-preserved : goal.loop-place-preserved
loop-place-preserved c = record {
  finds = each_more c.args.keys.now c.loop-place.place c.index-keys-place.result c.loop-place.found.items c.in-Ok-Some.one c.push_reserved.new.self.items c.args.session.now c.loop-place.session
      c.look_once.new.session (omega arith) c.index-keys-place.is c.loop-place.invariant.finds
      (subst (λ (told : Option Found). Finds c.loop-place.session c.index-keys-place.result told c.look_once.new.session) c.in-Ok-Some.field-0-is c.in-Ok-Some.ensures.found)
      c.push_reserved.ensures.items;
  room = omega (arith, c.loop-place.invariant.room, c.push_reserved.ensures.capacity);
  some = one_longer c.loop-place.found.items c.push_reserved.new.self.items c.in-Ok-Some.one c.loop-place.place c.push_reserved.ensures.items c.loop-place.invariant.some;
}

pub returns-in-Ok-None-clause-stopped : goal.returns-in-Ok-None-clause-stopped
returns-in-Ok-None-clause-stopped c = record {
  found = c.loop-place.found.items;
  mid = c.loop-place.session;
  before = c.loop-place.invariant.finds;
  key = c.index-keys-place.result;
  at = slice_get_read c.args.keys.now (length c.args.keys.now) c.loop-place.place c.index-keys-place.result refl (omega arith) c.index-keys-place.is;
  silent = subst (λ (told : Option Found). Finds c.loop-place.session c.index-keys-place.result told c.look_once.new.session) c.in-Ok-None.field-0-is c.in-Ok-None.ensures.found;
}

pub returns-in-Err-clause-stopped : goal.returns-in-Err-clause-stopped
returns-in-Err-clause-stopped c =
    let at = slice_get_read c.args.keys.now (length c.args.keys.now) c.loop-place.place c.index-keys-place.result refl (omega arith) c.index-keys-place.is in (
      c.loop-place.place,
      (
        c.loop-place.session,
        (c.loop-place.found.items, c.loop-place.invariant.finds),
        inr (c.index-keys-place.result, at, c.in-Err.ensures.looked.0, c.in-Err.ensures.looked.1),
      ),
    )
