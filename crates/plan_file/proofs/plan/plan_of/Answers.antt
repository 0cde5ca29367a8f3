use Rattle.std.proofs.Common.{◌≡◌, [], length, Err, inl, inr, sym, ◌∙◌, ap}
use Rattle.std.proofs.lemmas.List.Folds.{list_all-map}
use Rattle.std.proofs.lemmas.Result.{err_from_is_err_and}
use Rattle.std.proofs.lemmas.List.{length-map}
use Rattle.std.specs.List.{list_all, AllZip}
use Rattle.toml.specs.View.{view, table_view}
use Rattle.text_fields.specs.declared.field.Field.TheVariants as field
use Rattle.plan_file.specs.declared.plan.TheConstants.{PLAN}
use Rattle.text_fields.specs.Trees.{members_in}
use Rattle.text_fields.specs.Ranges.{is_table}
use Rattle.text_fields.specs.Faults.{field_faults, first}
use Rattle.plan_file.specs.PlanFaults.{steps_faults}
use Rattle.plan_file.specs.PlanHolds.{IsStepIn}
use Rattle.text_fields.proofs.First.{empty}
use Rattle.text_fields.proofs.Rows.{all_sound}
use Rattle.text_fields.proofs.Members.{tables_of}
use Rattle.plan_file.proofs.Steps.{own_first, steps_first, no_plan_faults}
use Rattle.plan_file.proofs.plan.plan_of.Goals as goal

pub returns-in-Some : goal.returns-in-Some
returns-in-Some c = rw c.of_plan.ensures (inr (own_first (table_view c.args.tree.now) c.in-Some.fault (sym c.first_fault.ensures ∙ c.in-Some.is)))

pub steps_of-requires-clause-tables : goal.steps_of-requires-clause-tables
steps_of-requires-clause-tables c =
    let tree = table_view c.args.tree.now in
    let own = empty (field_faults PLAN tree) (sym c.first_fault.ensures ∙ c.in_default.is) in
    let tables = tables_of tree field.Step 256 (all_sound PLAN tree own).1.0 in
    sym (list_all-map is_table view c.members_in.result.now) ∙ ap (list_all is_table) c.members_in.ensures ∙ tables.0

pub steps_of-requires-clause-few : goal.steps_of-requires-clause-few
steps_of-requires-clause-few c =
    let tree = table_view c.args.tree.now in
    let own = empty (field_faults PLAN tree) (sym c.first_fault.ensures ∙ c.in_default.is) in
    let tables = tables_of tree field.Step 256 (all_sound PLAN tree own).1.0 in
    rw (sym (length-map c.members_in.result.now view) ∙ ap length c.members_in.ensures) tables.1

pub returns-in_err-steps : goal.returns-in_err-steps
returns-in_err-steps c =
    let p = err_from_is_err_and c.from_residual.result c.from_residual.ensures.1 in
    let tree = table_view c.args.tree.now in
    let own = empty (field_faults PLAN tree) (sym c.first_fault.ensures ∙ c.in_default.is) in
    rw (p.1, p.2) (elim c.in_err-steps.ensures.err [
      | inl memory ↦ inl (ap Err memory)
      | inr counts ↦ inr (steps_first tree c.in_err-steps.field-0.0 own (ap (λ ds. first (steps_faults 0 ds)) (sym c.members_in.ensures) ∙ counts))
    ])

pub retries-requires : goal.retries-requires
retries-requires c = empty (field_faults PLAN (table_view c.args.tree.now)) (sym c.first_fault.ensures ∙ c.in_default.is)

pub returns : goal.returns
returns c =
    let tree = table_view c.args.tree.now in
    let own = empty (field_faults PLAN tree) (sym c.first_fault.ensures ∙ c.in_default.is) in
    let steps : steps_faults 0 (members_in field.Step tree) ≡ [] = ap (steps_faults 0) (sym c.members_in.ensures) ∙ c.in_ok-steps.ensures.sound in
    let held : AllZip IsStepIn (members_in field.Step tree) c.in_ok-steps.steps = rw (← c.members_in.ensures) c.in_ok-steps.ensures.held in
    inr (no_plan_faults tree own steps, record { steps = held; retries = c.retries.ensures })
