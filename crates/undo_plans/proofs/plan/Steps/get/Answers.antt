use Rattle.std.proofs.Common.{◌≡◌, ℕ, List, Some, map, slice_get, sym, ◌∙◌, ap}
use Rattle.undo_plans.specs.declared.owned_op.OwnedOp.{OwnedOp}
use Rattle.undo_plans.specs.Kept.{kept_op}
use Rattle.undo_plans.proofs.Keeping.{kept_at}
use Rattle.undo_plans.proofs.plan.Steps.get.Goals as goal

pub returns : goal.returns
returns c =
    let any : OwnedOp = c.in_ok-kept.kept.now in
    let values : List ℕ = c.self.inside.values.items in
    let lookup = c.in_ok-kept.ensures.lookup in
    let same : c.op.result ≡ kept_op values any = c.op.ensures ∙ ap (λ (l : List ℕ). kept_op l any) c.as_slice.ensures.value in
    ap Some same ∙ sym (kept_at values c.deref.result.now c.args.place any _ lookup.0 lookup.1)
    ∙ (λ i. slice_get (map (kept_op values) (c.deref.ensures.value i)) c.args.place) ∙ (λ i. slice_get (c.self.view_is i) c.args.place)
