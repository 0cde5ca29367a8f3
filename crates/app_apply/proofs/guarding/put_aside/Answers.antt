use Rattle.std.proofs.Common.{ℕ, List, Option, String, Global, Err, inr, subst}
use Rattle.app_journal.specs.Claiming.{IsFirstFree}
use Rattle.app_apply.proofs.guarding.put_aside.Goals as goal

pub returns-in-Err : goal.returns-in-Err
returns-in-Err g c =
    inr (
      c.in-Some.name,
      c.in-Err.field-0,
      subst (λ (found : Option (String Global)). IsFirstFree (g.F.WritesFiles.leads c.args.files.now) c.args.word.now found) c.in-Some.is c.in_ok-name.ensures,
      subst (λ (to : List ℕ). g.F.WritesFiles.renames c.args.files.now c.args.word.now to (Err c.in-Err.field-0) c.rename.new.self) c.as_str.ensures.value c.in-Err.ensures,
    )
