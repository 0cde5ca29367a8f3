-- The faults of a plan, in the order in which they count.
use Rattle.std.specs.Prelude.{ℕ, ◌+◌, ◌==◌, Bool, ◌&&◌, List, [], ◌∷◌, ◌++◌, map, filter, Option, Some, None, is_some, codes}
use Rattle.toml.specs.Data.{Data, Members}
use Rattle.text_fields.specs.declared.field.Field.TheVariants as field
use Rattle.text_fields.specs.declared.fault.FieldFault.{FieldFault}
use Rattle.text_fields.specs.declared.fault.FieldFault.TheVariants as fault
use Rattle.plan_file.specs.declared.kind.Kind.{Kind}
use Rattle.plan_file.specs.declared.kind.TheConstants.{KIND}
use Rattle.plan_file.specs.declared.plan_fault.OutsidePlan.{OutsidePlan}
use Rattle.plan_file.specs.declared.plan_fault.OutsidePlan.TheVariants as outside
use Rattle.plan_file.specs.declared.plan_fault.NoGet.{NoGet}
use Rattle.plan_file.specs.declared.plan_fault.NoGet.TheVariants as no_get
use Rattle.plan_file.specs.declared.plan_fault.StepFault.{StepFault}
use Rattle.plan_file.specs.declared.plan_fault.StepFault.TheVariants as step
use Rattle.plan_file.specs.declared.plan_fault.PlanFault.{PlanFault}
use Rattle.plan_file.specs.declared.plan_fault.PlanFault.TheVariants as plan
use Rattle.plan_file.specs.declared.plan.TheConstants.{PLAN}
use Rattle.plan_file.specs.declared.step.TheConstants.{OUTSIDE, NO_GETS}
use Rattle.text_fields.specs.Trees.{in_field, number_in, table_of, members_in}
use Rattle.text_fields.specs.Ranges.{passes, has_text}
use Rattle.plan_file.specs.Kinds.{of_kind, kind_in}
use Rattle.text_fields.specs.Faults.{field_faults}

-- what a step's `kind` calls it
abbrev pub outside_word : OutsidePlan → List ℕ
outside_word outside.Password = codes "password"
outside_word outside.Clock = codes "clock"
outside_word outside.Log = codes "log"

-- the step would change what no plan changes
abbrev pub is_outside : Members → OutsidePlan → Bool
is_outside tree named = has_text field.Kind (outside_word named) tree

-- the step asks for what no Get shows
abbrev pub asks : Members → NoGet → Bool
asks tree no_get.SessionLimit = has_text field.Kind (codes "user-access") tree && is_some (in_field field.SessionLimit tree)
asks tree no_get.FlagsClear = has_text field.Kind (codes "watchdog") tree && is_some (in_field field.FlagsClear tree)
asks tree no_get.BothStores = has_text field.Kind (codes "channel-access") tree && has_text field.Store (codes "both") tree
asks tree no_get.SetInProgress = has_text field.Kind (codes "boot-param") tree && passes (λ n. n == 0) (number_in field.Param tree)

-- the faults of a step by its kind: its fields' faults, or, where it names no kind, those of its `kind`, and that it is none
abbrev pub kind_faults : Members → Option Kind → List StepFault
kind_faults tree (Some named) = map step.Field (field_faults (of_kind named).rows tree)
kind_faults tree None = map step.Field (field_faults KIND tree) ++ step.UnknownKind ∷ []

-- the faults of a step
unfoldable pub step_faults : Members → List StepFault
step_faults tree =
    map step.OutsidePlan (filter (is_outside tree) OUTSIDE)
    ++ (map step.NoGet (filter (asks tree) NO_GETS)
    ++ kind_faults tree (kind_in tree))

-- the faults of the steps that an array has, of which the first has this place
abbrev pub steps_faults : ℕ → List Data → List PlanFault
steps_faults place [] = []
steps_faults place (d ∷ ds) = map (plan.Step place) (step_faults (table_of d)) ++ steps_faults (place + 1) ds

-- the fault of a plan's own field: too many steps have a name of their own
abbrev pub own_fault : FieldFault → PlanFault
own_fault (fault.Range field.Step) = plan.TooMany
own_fault why = plan.Field why

-- the faults of a plan: those of its own fields, then those of its steps
unfoldable pub plan_faults : Members → List PlanFault
plan_faults tree = map own_fault (field_faults PLAN tree) ++ steps_faults 0 (members_in field.Step tree)
