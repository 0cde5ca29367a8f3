use Rattle.std.proofs.Common.{inl, inr}
use Rattle.std.proofs.lemmas.Result.{err_from_is_err_and}
use Rattle.toml.specs.View.{table_view}
use Rattle.text_board.proofs.FileFaults.{attributes_first, states_first, effecters_first, no_pldm_faults}
use Rattle.text_board.proofs.item_groups.pldm_items.Goals as goal

pub returns-in_err-attributes-clause-err : goal.returns-in_err-attributes-clause-err
returns-in_err-attributes-clause-err c =
    let p = err_from_is_err_and c.from_residual.result c.from_residual.ensures.1 in
    rw (p.1, p.2) (elim c.in_err-attributes.ensures.err [
      | inl memory ↦ inl memory
      | inr counts ↦ inr (attributes_first (table_view c.args.top.now.table.now) c.in_err-attributes.field-0.0 counts)
    ])

pub returns-in_err-state_effecters-clause-err : goal.returns-in_err-state_effecters-clause-err
returns-in_err-state_effecters-clause-err c =
    let p = err_from_is_err_and c.from_residual-in_err-state_effecters.result c.from_residual-in_err-state_effecters.ensures.1 in
    rw (p.1, p.2) (elim c.in_err-state_effecters.ensures.err [
      | inl memory ↦ inl memory
      | inr counts ↦ inr (states_first (table_view c.args.top.now.table.now) c.in_err-state_effecters.field-0.0 c.in_ok-attributes.ensures.sound counts)
    ])

pub returns-in_err-numeric_effecters-clause-err : goal.returns-in_err-numeric_effecters-clause-err
returns-in_err-numeric_effecters-clause-err c =
    let p = err_from_is_err_and c.from_residual-in_err-numeric_effecters.result c.from_residual-in_err-numeric_effecters.ensures.1 in
    rw (p.1, p.2) (elim c.in_err-numeric_effecters.ensures.err [
      | inl memory ↦ inl memory
      | inr counts ↦ inr (effecters_first (table_view c.args.top.now.table.now) c.in_err-numeric_effecters.field-0.0 c.in_ok-attributes.ensures.sound c.in_ok-state_effecters.ensures.sound counts)
    ])

pub returns-clause-sound : goal.returns-clause-sound
returns-clause-sound c = no_pldm_faults (table_view c.args.top.now.table.now) c.in_ok-attributes.ensures.sound c.in_ok-state_effecters.ensures.sound c.in_ok-numeric_effecters.ensures.sound

pub returns-clause-held : goal.returns-clause-held
returns-clause-held c =
    record {
      attributes = c.in_ok-attributes.ensures.held;
      states = c.in_ok-state_effecters.ensures.held;
      effecters = c.in_ok-numeric_effecters.ensures.held;
    }
