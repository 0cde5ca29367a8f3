use Rattle.std.proofs.Common.{ℕ, List, inr, string_bytes, subst}
use Rattle.std.proofs.lemmas.Result.{IfOk-weaker}
use Rattle.app_journal.specs.Claiming.{MayHave, StandsAt}
use Rattle.app_journal.proofs.claiming.looked_at.Goals as goal

pub returns : goal.returns
returns g c =
    IfOk-weaker c.standing.result _ _
    (λ standing stands. inr (
      string_bytes c.in_ok-undo.undo,
      subst (λ (w : List ℕ). MayHave (g.F.TextFiles.gives c.args.files.now) w (string_bytes c.in_ok-undo.undo)) c.as_str.ensures.value c.in_ok-undo.ensures,
      subst (λ (undo : List ℕ). StandsAt (g.F.TextFiles.gives c.args.files.now) (g.F.WritesFiles.leads c.args.files.now) c.args.beside.now undo standing)
          c.as_str-2.ensures.value stands,
    )) c.standing.ensures
