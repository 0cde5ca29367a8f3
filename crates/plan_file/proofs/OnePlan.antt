-- A tree holds one plan.
use Rattle.std.proofs.Common.{◌≡◌, ◌∙◌, ℕ, List, Option, Some, None, MatchOption, Result, Ok, Err, sym, ap, subst}
use Rattle.toml.specs.Data.{Members}
use Rattle.toml.specs.Parse.{parse_document}
use Rattle.record_base.specs.declared.op.Op.{Op}
use Rattle.undo_plans.specs.declared.plan.Plan.{Plan}
use Rattle.text_fields.specs.declared.field.Field.TheVariants as field
use Rattle.plan_file.specs.declared.kind.Kind.{Kind}
use Rattle.plan_file.specs.declared.plan_fault.PlanFault.{PlanFault}
use Rattle.plan_file.specs.declared.plan_fault.PlanFault.TheVariants as plan
use Rattle.text_fields.specs.Trees.{table_of, members_in}
use Rattle.plan_file.specs.Kinds.{of_kind, kind_in}
use Rattle.text_fields.specs.Faults.{first}
use Rattle.plan_file.specs.PlanFaults.{plan_faults}
use Rattle.plan_file.specs.PlanHolds.{HoldsStep, HoldsPlan, AnswersPlan, ReadsPlan}
use Rattle.text_fields.proofs.Unique.{one_found, one_list}

-- ---- steps

-- a table holds one step
one_step : (tree : Members) (a b : Op) → HoldsStep tree a → HoldsStep tree b → a ≡ b
one_step tree a b (named, (is, holds)) (other, (also, held)) =
    let same = one_found (kind_in tree) other named also is in
    (of_kind named).only tree a b holds (subst (λ (k : Kind). (of_kind k).Holds tree b) same held)

-- ---- plans

-- a tree holds one plan
one_held : (tree : Members) (a b : Plan) → HoldsPlan tree a → HoldsPlan tree b → a ≡ b
one_held tree a b p q =
    let steps = one_list (λ d. one_step (table_of d)) (members_in field.Step tree) a.steps b.steps p.steps q.steps in
    let retries = p.retries ∙ sym q.retries in
    λ i. record { steps = steps i; retries = retries i }

answered : (tree : Members) (a b : Result Plan PlanFault) → AnswersPlan tree a → AnswersPlan tree b → a ≡ b
answered tree (Ok a) (Ok b) p q = ap Ok (one_held tree a b p.1 q.1)
answered tree (Ok a) (Err b) p q = let none : None ≡ Some b = sym (ap first p.0) ∙ q in cc none
answered tree (Err a) (Ok b) p q = let none : None ≡ Some a = sym (ap first q.0) ∙ p in cc none
answered tree (Err a) (Err b) p q = ap Err (one_found (first (plan_faults tree)) a b p q)

read : (found : Option Members) (a b : Result Plan PlanFault) → MatchOption found (a ≡ Err plan.Text) (λ tree. AnswersPlan tree a) → MatchOption found (b ≡ Err plan.Text) (λ tree. AnswersPlan tree b) → a ≡ b
read None a b p q = p ∙ sym q
read (Some tree) a b p q = answered tree a b p q

-- a text is read in one way
pub one_reading : (text : List ℕ) (a b : Result Plan PlanFault) → ReadsPlan text a → ReadsPlan text b → a ≡ b
one_reading text a b p q = read (parse_document text) a b p q
