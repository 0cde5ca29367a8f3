use Rattle.std.proofs.Common.{None, sym, ap, ◌∙◌}
use Rattle.toml.specs.View.{table_view}
use Rattle.text_fields.specs.Faults.{first, field_faults}
use Rattle.plan_file.proofs.Steps.{outside_first, no_get_first, fault_of_kind, fault_of_field, no_step_fault}
use Rattle.file_faults.proofs.steps.step_fault.Goals as goal

pub returns-in-Some : goal.returns-in-Some
returns-in-Some c = sym (outside_first (table_view c.args.step.now) c.in-Some.outside (sym c.outside_plan.ensures ∙ c.in-Some.is))

pub returns-in-Some-no_get : goal.returns-in-Some-no_get
returns-in-Some-no_get c =
    sym (no_get_first (table_view c.args.step.now) c.in-Some-no_get.no_get (sym c.outside_plan.ensures ∙ c.in_default.is) (sym c.no_get.ensures ∙ c.in-Some-no_get.is))

pub returns-in_default-kind_in : goal.returns-in_default-kind_in
returns-in_default-kind_in c =
    sym (fault_of_kind (table_view c.args.step.now) None c.kind_fault.result (sym c.kind_in.ensures ∙ c.in_default-kind_in.is) (sym c.outside_plan.ensures ∙ c.in_default.is)
    (sym c.no_get.ensures ∙ c.in_default-no_get.is) c.kind_fault.ensures)

pub returns-in-Some-first_fault : goal.returns-in-Some-first_fault
returns-in-Some-first_fault c =
    let tree = table_view c.args.step.now in
    sym (fault_of_field tree c.in-Some-kind_in.kind c.in-Some-first_fault.fault (sym c.kind_in.ensures ∙ c.in-Some-kind_in.is) (sym c.outside_plan.ensures ∙ c.in_default.is)
    (sym c.no_get.ensures ∙ c.in_default-no_get.is)
    (ap (λ rows. first (field_faults rows tree)) (sym c.rows.ensures) ∙ sym c.first_fault.ensures ∙ c.in-Some-first_fault.is))

pub returns-in-None : goal.returns-in-None
returns-in-None c =
    let tree = table_view c.args.step.now in
    sym (ap first (no_step_fault tree c.in-Some-kind_in.kind (sym c.kind_in.ensures ∙ c.in-Some-kind_in.is) (sym c.outside_plan.ensures ∙ c.in_default.is)
    (sym c.no_get.ensures ∙ c.in_default-no_get.is)
    (ap (λ rows. first (field_faults rows tree)) (sym c.rows.ensures) ∙ sym c.first_fault.ensures ∙ c.in-None.is)))
