-- The faults of a plan beside those of its steps.
use Rattle.std.proofs.Common.{◌≡◌, ℕ, ◌+◌, ◌<◌, length, List, [], ◌∷◌, ◌++◌, map, take, drop, get_or, Option, Some, None, ap, ◌∙◌}
use Rattle.std.proofs.lemmas.List.{take_more, drop_more, map-append}
use Rattle.std.proofs.lemmas.Slice.Zip.{all_zipped_more}
use Rattle.std.specs.List.{find, AllZip}
use Rattle.toml.specs.Data.{Members}
use Rattle.toml.specs.View.{view}
use Rattle.toml.specs.declared.value.Value.{Value}
use Rattle.record_base.specs.declared.op.Op.{Op}
use Rattle.text_fields.specs.declared.field.Field.TheVariants as field
use Rattle.text_fields.specs.declared.fault.FieldFault.{FieldFault}
use Rattle.plan_file.specs.declared.kind.Kind.{Kind}
use Rattle.plan_file.specs.declared.plan_fault.OutsidePlan.{OutsidePlan}
use Rattle.plan_file.specs.declared.plan_fault.NoGet.{NoGet}
use Rattle.plan_file.specs.declared.plan_fault.StepFault.{StepFault}
use Rattle.plan_file.specs.declared.plan_fault.StepFault.TheVariants as step
use Rattle.plan_file.specs.declared.plan_fault.PlanFault.{PlanFault}
use Rattle.plan_file.specs.declared.plan_fault.PlanFault.TheVariants as plan
use Rattle.plan_file.specs.declared.plan.TheConstants.{PLAN}
use Rattle.plan_file.specs.declared.step.TheConstants.{OUTSIDE, NO_GETS}
use Rattle.text_fields.specs.Trees.{table_of, members_in}
use Rattle.plan_file.specs.Kinds.{of_kind, kind_in}
use Rattle.text_fields.specs.Faults.{field_faults, first}
use Rattle.plan_file.specs.PlanFaults.{is_outside, asks, kind_faults, step_faults, steps_faults, own_fault, plan_faults}
use Rattle.plan_file.specs.PlanHolds.{IsStepIn}
use Rattle.text_fields.proofs.First.{found, none_found, first-map, empty, first-append}

-- ---- of a step

module _ (tree : Members) where
  -- what no plan changes counts first
  pub outside_first : (named : OutsidePlan) → find (is_outside tree) OUTSIDE ≡ Some named → first (step_faults tree) ≡ Some (step.OutsidePlan named)
  unfolding step_faults
  outside_first named is = found (λ (o : OutsidePlan). step.OutsidePlan o) (is_outside tree) OUTSIDE _ named is

  -- then what no Get shows
  pub no_get_first : (named : NoGet) → find (is_outside tree) OUTSIDE ≡ None → find (asks tree) NO_GETS ≡ Some named → first (step_faults tree) ≡ Some (step.NoGet named)
  unfolding step_faults
  no_get_first named inside is =
      ap first (none_found (λ (o : OutsidePlan). step.OutsidePlan o) (is_outside tree) OUTSIDE _ inside)
      ∙ found (λ (n : NoGet). step.NoGet n) (asks tree) NO_GETS _ named is

  -- then the faults by its kind
  pub kind_next : find (is_outside tree) OUTSIDE ≡ None → find (asks tree) NO_GETS ≡ None → step_faults tree ≡ kind_faults tree (kind_in tree)
  unfolding step_faults
  kind_next inside shown =
      none_found (λ (o : OutsidePlan). step.OutsidePlan o) (is_outside tree) OUTSIDE _ inside
      ∙ none_found (λ (n : NoGet). step.NoGet n) (asks tree) NO_GETS _ shown

  pub fault_of_kind : (o : Option Kind) (why : StepFault) → kind_in tree ≡ o → find (is_outside tree) OUTSIDE ≡ None → find (asks tree) NO_GETS ≡ None
      → first (kind_faults tree o) ≡ Some why → first (step_faults tree) ≡ Some why
  fault_of_kind o why is inside shown counts = ap first (kind_next inside shown) ∙ ap (λ k. first (kind_faults tree k)) is ∙ counts

  pub fault_of_field : (named : Kind) (why : FieldFault) → kind_in tree ≡ Some named → find (is_outside tree) OUTSIDE ≡ None → find (asks tree) NO_GETS ≡ None
      → first (field_faults (of_kind named).rows tree) ≡ Some why → first (step_faults tree) ≡ Some (step.Field why)
  fault_of_field named why is inside shown counts =
      fault_of_kind (Some named) (step.Field why) is inside shown (first-map (λ (f : FieldFault). step.Field f) (field_faults (of_kind named).rows tree) why counts)

  pub no_step_fault : (named : Kind) → kind_in tree ≡ Some named → find (is_outside tree) OUTSIDE ≡ None → find (asks tree) NO_GETS ≡ None
      → first (field_faults (of_kind named).rows tree) ≡ None → step_faults tree ≡ []
  no_step_fault named is inside shown none =
      kind_next inside shown ∙ ap (kind_faults tree) is ∙ ap (map (λ (f : FieldFault). step.Field f)) (empty (field_faults (of_kind named).rows tree) none)

-- ---- of the steps that were read

module _ (vs : List Value) (i : ℕ) (v : Value) (within : i < length vs) (is : v ≡ get_or vs i v) where
  taken_more : map view (take (i + 1) vs) ≡ map view (take i vs) ++ view v ∷ []
  taken_more = rw (take_more vs i v within, ← is, map-append)

  left_over : map view (drop i vs) ≡ view v ∷ map view (drop (i + 1) vs)
  left_over = rw (drop_more vs i v within, ← is)

  -- one more step that was read
  pub next_step : (before : List Op) (op : Op) → AllZip IsStepIn (map view (take i vs)) before → IsStepIn (view v) op → AllZip IsStepIn (map view (take (i + 1) vs)) (before ++ op ∷ [])
  next_step before op zip holds = rw taken_more (all_zipped_more IsStepIn (map view (take i vs)) before (view v) op zip holds)

  -- the faults of those that are left
  pub left_after : step_faults (table_of (view v)) ≡ [] → steps_faults i (map view (drop i vs)) ≡ steps_faults (i + 1) (map view (drop (i + 1) vs))
  left_after sound = ap (steps_faults i) left_over ∙ ap (λ why. map (plan.Step i) why ++ steps_faults (i + 1) (map view (drop (i + 1) vs))) sound

  -- the fault of the next counts
  pub next_counts : (why : PlanFault) → first (map (plan.Step i) (step_faults (table_of (view v)))) ≡ Some why → first (steps_faults i (map view (drop i vs))) ≡ Some why
  next_counts why counts = ap (λ ds. first (steps_faults i ds)) left_over ∙ first-append _ _ why counts

-- ---- of a plan

module _ (tree : Members) where
  pub own_first : (why : FieldFault) → first (field_faults PLAN tree) ≡ Some why → first (plan_faults tree) ≡ Some (own_fault why)
  unfolding plan_faults
  own_first why is = first-append _ _ (own_fault why) (first-map own_fault (field_faults PLAN tree) why is)

  pub steps_first : (why : PlanFault) → field_faults PLAN tree ≡ [] → first (steps_faults 0 (members_in field.Step tree)) ≡ Some why → first (plan_faults tree) ≡ Some why
  unfolding plan_faults
  steps_first why own is = rw own is

  pub no_plan_faults : field_faults PLAN tree ≡ [] → steps_faults 0 (members_in field.Step tree) ≡ [] → plan_faults tree ≡ []
  unfolding plan_faults
  no_plan_faults own steps = rw own steps
