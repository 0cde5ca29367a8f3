-- Names that are put into lists.
use Rattle.std.proofs.Common.{◌≡◌, ◌∙◌, ℕ, ◌+◌, ◌<◌, ◌≤◌, List, length, get_or, set, ◌⊎◌, inl, inr, sym, subst, arith}
use Rattle.std.proofs.lemmas.Bool.{cases_eq}
use Rattle.std.proofs.lemmas.List.{get_or-set_same, get_or-set_other, get_or_default, length-set}
use Rattle.report_words.specs.declared.table_names.AttributeName.{AttributeName}
use Rattle.report_words.specs.TableNames.{IsNamedByTables}

-- each attribute before a place was named, and those from there on are as they were
pub record AreNamedTo (attributes strings : List ℕ) (place : ℕ) (old new : List AttributeName) : Type 0 where
  pub as_many : length new ≡ length old
  pub named : (k : ℕ) (any : AttributeName) → k < place → IsNamedByTables attributes strings (get_or old k any) (get_or new k any)
  pub left : (k : ℕ) (any : AttributeName) → place ≤ k → get_or new k any ≡ get_or old k any

pub named_more : (attributes strings : List ℕ) (place : ℕ) (old now : List AttributeName) (was one : AttributeName) → was ≡ get_or now place was → place < length now
    → AreNamedTo attributes strings place old now → IsNamedByTables attributes strings was one → AreNamedTo attributes strings (place + 1) old (set now place one)
named_more attributes strings place old now was one at within before is = record {
  as_many = length-set now place one ∙ before.as_many;
  named = λ k any less. by k any less (cases_eq k place);
  left = λ k any behind. get_or-set_other now place k one any (λ same. omega (arith, same, behind)) ∙ before.left k any (omega (arith, behind));
} where
  here : (any : AttributeName) → was ≡ get_or old place any
  here any = at ∙ get_or_default now place was any within ∙ before.left place any (omega arith)

  by : (k : ℕ) (any : AttributeName) → k < place + 1 → (k ≡ place) ⊎ (k ≡ place → ⊥) → IsNamedByTables attributes strings (get_or old k any) (get_or (set now place one) k any)
  by k any less (inl same) =
      subst (λ (n : ℕ). IsNamedByTables attributes strings (get_or old n any) (get_or (set now place one) n any)) (sym same)
      (subst (λ (x : AttributeName). IsNamedByTables attributes strings x (get_or (set now place one) place any)) (here any)
      (subst (IsNamedByTables attributes strings was) (sym (get_or-set_same now place one any within)) is))
  by k any less (inr other) =
      subst (IsNamedByTables attributes strings (get_or old k any)) (sym (get_or-set_other now place k one any other)) (before.named k any (omega (arith, less, other)))
