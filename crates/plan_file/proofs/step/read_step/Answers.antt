use Rattle.std.proofs.Common.{None, sym, subst, ◌∙◌, ap}
use Rattle.toml.specs.Data.{Members}
use Rattle.toml.specs.View.{table_view}
use Rattle.text_fields.specs.Faults.{first, field_faults}
use Rattle.plan_file.specs.Kinds.{of_kind}
use Rattle.plan_file.proofs.Steps.{outside_first, no_get_first, fault_of_kind, fault_of_field, no_step_fault}
use Rattle.plan_file.proofs.step.read_step.Goals as goal

pub returns-in-Some-clause-err : goal.returns-in-Some-clause-err
returns-in-Some-clause-err c = outside_first (table_view c.args.step.now) c.in-Some.outside (sym c.outside_plan.ensures ∙ c.in-Some.is)

pub returns-in-Some-no_get-clause-err : goal.returns-in-Some-no_get-clause-err
returns-in-Some-no_get-clause-err c =
    no_get_first (table_view c.args.step.now) c.in-Some-no_get.no_get (sym c.outside_plan.ensures ∙ c.in_default.is) (sym c.no_get.ensures ∙ c.in-Some-no_get.is)

pub returns-in_default-kind_in-clause-err : goal.returns-in_default-kind_in-clause-err
returns-in_default-kind_in-clause-err c =
    fault_of_kind (table_view c.args.step.now) None c.kind_fault.result (sym c.kind_in.ensures ∙ c.in_default-kind_in.is) (sym c.outside_plan.ensures ∙ c.in_default.is)
    (sym c.no_get.ensures ∙ c.in_default-no_get.is) c.kind_fault.ensures

pub returns-in-Err-clause-err : goal.returns-in-Err-clause-err
returns-in-Err-clause-err c =
    let tree = table_view c.args.step.now in
    fault_of_field tree c.in-Some-kind_in.kind c.in-Err.fault (sym c.kind_in.ensures ∙ c.in-Some-kind_in.is) (sym c.outside_plan.ensures ∙ c.in_default.is)
    (sym c.no_get.ensures ∙ c.in_default-no_get.is)
    (ap (λ rows. first (field_faults rows tree)) (sym c.rows.ensures) ∙ c.in-Err.ensures.err)

pub returns-in-Ok-clause-sound : goal.returns-in-Ok-clause-sound
returns-in-Ok-clause-sound c =
    let tree = table_view c.args.step.now in
    no_step_fault tree c.in-Some-kind_in.kind (sym c.kind_in.ensures ∙ c.in-Some-kind_in.is) (sym c.outside_plan.ensures ∙ c.in_default.is)
    (sym c.no_get.ensures ∙ c.in_default-no_get.is)
    (ap (λ rows. first (field_faults rows tree)) (sym c.rows.ensures) ∙ ap first c.in-Ok.ensures.sound)

pub returns-in-Ok-clause-held : goal.returns-in-Ok-clause-held
returns-in-Ok-clause-held c =
    let named = c.in-Some-kind_in.kind in
    let held = subst (λ (t : Members). (of_kind named).Holds t c.change.result) c.in-Ok.ensures.ok c.change.ensures in
    (named, (sym c.kind_in.ensures ∙ c.in-Some-kind_in.is, held))
