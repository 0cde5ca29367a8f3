-- How faults of a plan are named: [STEP] NAME [DETAIL].
use Rattle.std.specs.Prelude.{ℕ, List, ◌++◌, codes}
use Rattle.std.specs.Fmt.{decimal}
use Rattle.plan_file.specs.declared.plan_fault.OutsidePlan.{OutsidePlan}
use Rattle.plan_file.specs.declared.plan_fault.OutsidePlan.TheVariants as outside
use Rattle.plan_file.specs.declared.plan_fault.NoGet.{NoGet}
use Rattle.plan_file.specs.declared.plan_fault.NoGet.TheVariants as no_get
use Rattle.plan_file.specs.declared.plan_fault.StepFault.{StepFault}
use Rattle.plan_file.specs.declared.plan_fault.StepFault.TheVariants as step
use Rattle.plan_file.specs.declared.plan_fault.PlanFault.{PlanFault}
use Rattle.plan_file.specs.declared.plan_fault.PlanFault.TheVariants as fault
use Rattle.text_fields.specs.FaultNames.{field_fault_name}

-- what no plan changes
abbrev pub outside_name : OutsidePlan → List ℕ
outside_name outside.Password = codes "Password"
outside_name outside.Clock = codes "Clock"
outside_name outside.Log = codes "Log"

-- what no Get shows
abbrev pub no_get_name : NoGet → List ℕ
no_get_name no_get.SessionLimit = codes "SessionLimit"
no_get_name no_get.FlagsClear = codes "FlagsClear"
no_get_name no_get.BothStores = codes "BothStores"
no_get_name no_get.SetInProgress = codes "SetInProgress"

-- a fault of a step
abbrev pub step_fault_name : StepFault → List ℕ
step_fault_name (step.OutsidePlan outside) = codes "OutsidePlan " ++ outside_name outside
step_fault_name (step.NoGet no_get) = codes "NoGet " ++ no_get_name no_get
step_fault_name step.UnknownKind = codes "UnknownKind"
step_fault_name (step.Field why) = field_fault_name why

-- a fault of a plan, and the step from 0
abbrev pub plan_fault_name : PlanFault → List ℕ
plan_fault_name fault.Memory = codes "Memory"
plan_fault_name fault.Text = codes "Text"
plan_fault_name (fault.Field why) = field_fault_name why
plan_fault_name fault.TooMany = codes "TooMany"
plan_fault_name (fault.Step place why) = decimal place ++ (codes " " ++ step_fault_name why)
