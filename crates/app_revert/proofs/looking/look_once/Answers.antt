use Rattle.std.proofs.Common.{inl, inr, refl, subst, sym, take}
use Rattle.std.proofs.lemmas.Result.{on_ok_weaker}
use Rattle.record_base.specs.declared.key.Key.{Key}
use Rattle.app_revert.specs.Looks.{IsAmong, EyeLooksAt, Tells}
use Rattle.app_revert.proofs.looking.look_once.Goals as goal

pub returns-then-has_record : goal.returns-then-has_record
returns-then-has_record c =
    inr (
      refl,
      refl,
      inr (inr (
        c.in-Some.op,
        c.in-Some.ensures.some,
        subst (λ (key : Key). IsAmong key (take c.args.count c.args.list.now.members)) c.key-key.ensures (c.has_record.ensures.0 c.if-has_record.true),
      )),
    )

pub returns : goal.returns
returns c =
    on_ok_weaker c.add.result
    (λ tells. inl (
      c.in-Some.op,
      c.sight_of-sight.result,
      c.in-Some.ensures.some,
      c.if-looked.false,
      (λ among. cc (c.if-has_record.false, c.has_record.ensures.1 (subst (λ (key : Key). IsAmong key (take c.args.count c.args.list.now.members)) (sym c.key-key.ensures) among))),
      subst (λ (key : Key). EyeLooksAt c.args.agains key c.args.eye.now c.look_at.new.eye) c.key-key.ensures c.look_at.ensures,
      c.sight_of-sight.ensures,
      subst (λ (key : Key). Tells key c.sight_of-sight.result c.args.looked.now c.add.new.self) c.key-key.ensures tells,
    )) c.add.ensures
