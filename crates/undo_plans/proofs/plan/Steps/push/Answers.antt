use Rattle.std.proofs.Common.{rules, ◌≡◌, ◌<◌, ◌≤◌, ℕ, List, [], ◌∷◌, ◌++◌, length, map, refl, sym, ◌∙◌, ap, subst, arith}
use Rattle.std.specs.List.{All}
use Rattle.std.proofs.lemmas.List.{length-append, length-map}
use Rattle.record_base.specs.declared.op.Op.{Op}
use Rattle.undo_plans.specs.declared.owned_op.OwnedOp.{OwnedOp}
use Rattle.undo_plans.specs.Kept.{value_of, kept_op, IsAmong, KeepsOp}
use Rattle.undo_plans.specs.Steps.{most_steps}
use Rattle.undo_plans.proofs.Keeping.{all_among, one_more}
use Rattle.undo_plans.proofs.plan.Steps.push.Goals as goal

pub returns-clause-added : goal.returns-clause-added
returns-clause-added c =
    let any : Op = c.args.op.now in
    let values : List ℕ = c.self.inside.values.items in
    let ops : List OwnedOp = c.self.inside.ops.items in
    let valued : c.value_of-value.result.now ≡ value_of any = c.value_of-value.ensures.value in
    let wider : c.extend_from_slice.new.self.items ≡ values ++ value_of any = c.in_ok-extend_from_slice.ensures.items ∙ ap (λ (l : List ℕ). values ++ l) valued in
    let from : c.len.result ≡ length values = search rules in
    let longer : c.push_reserved.new.self.items ≡ ops ++ c.of-kept.result ∷ [] = c.push_reserved.ensures.items ∙ (λ i. c.reserve.ensures.items i ++ c.of-kept.result ∷ []) in
    let keeps : KeepsOp (length values) any c.of-kept.result = subst (λ (n : ℕ). KeepsOp n any c.of-kept.result) from c.of-kept.ensures in
    (λ i. map (kept_op (wider i)) (longer i)) ∙ one_more values ops any c.of-kept.result c.self.invariant.1 keeps ∙ ap (λ (l : List Op). l ++ any ∷ []) c.self.view_is

pub invariant_of-self-2 : goal.invariant_of-self-2
invariant_of-self-2 c =
    let any : Op = c.args.op.now in
    let values : List ℕ = c.self.inside.values.items in
    let ops : List OwnedOp = c.self.inside.ops.items in
    let kept : OwnedOp = c.of-kept.result in
    let valued : c.value_of-value.result.now ≡ value_of any = c.value_of-value.ensures.value in
    let wider : c.extend_from_slice.new.self.items ≡ values ++ value_of any = c.in_ok-extend_from_slice.ensures.items ∙ ap (λ (l : List ℕ). values ++ l) valued in
    let from : c.len.result ≡ length values = search rules in
    let longer : c.push_reserved.new.self.items ≡ ops ++ kept ∷ [] = c.push_reserved.ensures.items ∙ (λ i. c.reserve.ensures.items i ++ kept ∷ []) in
    let keeps : KeepsOp (length values) any kept = subst (λ (n : ℕ). KeepsOp n any kept) from c.of-kept.ensures in
    let before : length (map (kept_op values) ops) < most_steps = subst (λ (steps : List Op). length steps < most_steps) (sym c.self.view_is) c.requires in
    let few : length (ops ++ kept ∷ []) ≤ most_steps = omega (arith, before, length-map ops (kept_op values), length-append ops (kept ∷ [])) in
    let among : All (IsAmong (values ++ value_of any)) (ops ++ kept ∷ []) = all_among values (value_of any) ops kept c.self.invariant.1 (keeps values refl).0 in
    subst (λ (l : List OwnedOp). (length l ≤ most_steps) × All (IsAmong c.extend_from_slice.new.self.items) l) (sym longer)
    (few, subst (λ (v : List ℕ). All (IsAmong v) (ops ++ kept ∷ [])) (sym wider) among)
