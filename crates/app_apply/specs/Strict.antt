-- Plans that are taken strictly.
use Rattle.std.specs.Prelude.{◌≡◌, ◌≢◌, ◌⊎◌, List, ℕ, [], false, Ok}
use Rattle.undo_plans.specs.declared.plan.Plan.{Plan}
use Rattle.plan_file.specs.PlanHolds.{ReadsPlan}
use Rattle.text_check.specs.declared.outcome.Outcome.{Outcome}
use Rattle.text_check.specs.declared.outcome.Outcome.TheVariants.{Fine}
use Rattle.text_check.specs.Known.{is_told_plan}
use Rattle.text_check.specs.Outcomes.{IsPlanOutcome, tells}
use Rattle.app_apply.specs.declared.strict.StrictFault.{StrictFault}
use Rattle.app_apply.specs.declared.strict.StrictFault.TheVariants.{Memory, Refused}

-- the text is that of the plan, each of its keys is read, and it has a step
pub record IsStrictPlan (text : List ℕ) (plan : Plan) : Type 0 where
  pub reads : ReadsPlan text (Ok plan)
  pub all_read : tells is_told_plan text ≡ false
  pub some : plan.steps ≢ []

-- the text is that of none: it has a fault, or a key that nothing reads, or it is that of a plan without a step
abbrev pub IsNoStrictPlan : (text : List ℕ) → Type 0
IsNoStrictPlan text =
    ((outcome : Outcome) × IsPlanOutcome text outcome × (outcome ≢ Fine))
    ⊎ ((plan : Plan) × ReadsPlan text (Ok plan) × (plan.steps ≡ []))

-- why a text isn't taken: it is that of none, unless memory was refused
abbrev pub RefusesPlan : (text : List ℕ) → StrictFault → Type 0
RefusesPlan text Memory = Unit {0}
RefusesPlan text (Refused why) = IsNoStrictPlan text
