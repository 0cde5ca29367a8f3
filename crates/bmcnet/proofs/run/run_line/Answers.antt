use Rattle.std.proofs.Common.{inl, inr, refl, map, string_bytes}
use Rattle.bmcnet.proofs.Endings.{ends_refused}
use Rattle.bmcnet.proofs.run.run_line.Goals as goal

pub returns-in-Ok-clause-ends : goal.returns-in-Ok-clause-ends
returns-in-Ok-clause-ends g c = inl (c.in-Ok.asked, c.in-Ok.ensures.asked, c.carry_out.ensures.ends)

pub returns-in-Ok-clause-told : goal.returns-in-Ok-clause-told
returns-in-Ok-clause-told g c = inl (c.in-Ok.asked, c.in-Ok.ensures.asked, c.carry_out.ensures.told)

pub returns-in-Err-clause-ends : goal.returns-in-Err-clause-ends
returns-in-Err-clause-ends g c =
    inr (
      refl,
      ends_refused g.W.Write.contents g.E.Write.contents (map string_bytes c.args.words.now) c.in-Err.refusal c.args.console.now c.refuse.new.console c.refuse.result
          c.in-Err.ensures.refused c.refuse.ensures,
    )

pub returns-in-Err-clause-told : goal.returns-in-Err-clause-told
returns-in-Err-clause-told g c = inr refl
