-- The plan that a tree holds.
use Rattle.std.specs.Prelude.{◌≡◌, ℕ, List, [], Option, Some, None, Result, Ok, Err, MatchOption}
use Rattle.std.specs.List.{AllZip}
use Rattle.toml.specs.Data.{Data, Members}
use Rattle.toml.specs.Parse.{parse_document}
use Rattle.record_base.specs.declared.op.Op.{Op}
use Rattle.undo_plans.specs.declared.plan.Plan.{Plan}
use Rattle.text_fields.specs.declared.field.Field.TheVariants as field
use Rattle.plan_file.specs.declared.kind.Kind.{Kind}
use Rattle.plan_file.specs.declared.plan_fault.PlanFault.{PlanFault}
use Rattle.plan_file.specs.declared.plan_fault.PlanFault.TheVariants as plan
use Rattle.text_fields.specs.Trees.{number_in, table_of, members_in}
use Rattle.plan_file.specs.Kinds.{of_kind, kind_in}
use Rattle.text_fields.specs.Faults.{first}
use Rattle.plan_file.specs.PlanFaults.{plan_faults}

-- the step holds a change of the kind that it names
abbrev pub HoldsStep : Members → Op → Type 0
HoldsStep tree op = (named : Kind) × ((kind_in tree ≡ Some named) × (of_kind named).Holds tree op)

-- the member of an array holds a change
abbrev pub IsStepIn : Data → Op → Type 0
IsStepIn d set = HoldsStep (table_of d) set

-- how often frames are sent again: 3 times where the plan doesn't say it
abbrev pub or_three : Option ℕ → ℕ
or_three (Some n) = n
or_three None = 3

-- the tree holds a plan
pub record HoldsPlan (tree : Members) (held : Plan) : Type 0 where
  pub steps : AllZip IsStepIn (members_in field.Step tree) held.steps
  pub retries : held.retries ≡ or_three (number_in field.Retries tree)

-- what the reading of a tree answers: the plan that it holds where it has no fault, else its first fault
abbrev pub AnswersPlan : Members → Result Plan PlanFault → Type 0
AnswersPlan tree (Ok held) = (plan_faults tree ≡ []) × HoldsPlan tree held
AnswersPlan tree (Err why) = first (plan_faults tree) ≡ Some why

-- what the reading of a text answers where memory suffices: Text where it's no TOML 1.1
abbrev pub ReadsPlan : List ℕ → Result Plan PlanFault → Type 0
ReadsPlan text answer = MatchOption (parse_document text) (answer ≡ Err plan.Text) (λ tree. AnswersPlan tree answer)
