-- Steps of plans, one plan behind another.
use Rattle.std.proofs.Common.{◌≡◌, ◌∙◌, ◌++◌, List, [], ◌∷◌, sym, ap, append_assoc}
use Rattle.std.proofs.lemmas.List.{append-nil}
use Rattle.record_base.specs.declared.op.Op.{Op}
use Rattle.app_show.specs.Backup.{joined}

-- the last plan is one of the others, and a new one has no step yet
pub joined_more : (plans : List (List Op)) (last : List Op) → joined (plans ++ last ∷ []) ++ [] ≡ joined plans ++ last
joined_more plans last = append-nil (joined (plans ++ last ∷ [])) ∙ by plans where
  by : (plans : List (List Op)) → joined (plans ++ last ∷ []) ≡ joined plans ++ last
  by [] = append-nil last
  by (steps ∷ later) = ap (λ (l : List Op). steps ++ l) (by later) ∙ sym (append_assoc steps (joined later) last)

-- so the steps stay where a plan is begun
pub begun : (new mid old : List (List Op)) (full last next : List Op) → new ≡ mid ++ full ∷ [] → mid ≡ old → full ≡ last → next ≡ [] → joined new ++ next ≡ joined old ++ last
begun new mid old full last next is same was empty =
    let whole : new ≡ old ++ last ∷ [] = is ∙ (λ i. same i ++ was i ∷ []) in
    (λ i. joined (whole i) ++ empty i) ∙ joined_more old last
