use Rattle.std.proofs.Common.{inl, inr}
use Rattle.std.proofs.lemmas.Result.{err_from_is_err_and}
use Rattle.toml.specs.View.{table_view}
use Rattle.text_board.proofs.FileFaults.{sensors_first, channels_first, lans_first, no_ipmi_faults}
use Rattle.text_board.proofs.item_groups.ipmi_items.Goals as goal

pub returns-in_err-sensors-clause-err : goal.returns-in_err-sensors-clause-err
returns-in_err-sensors-clause-err c =
    let p = err_from_is_err_and c.from_residual.result c.from_residual.ensures.1 in
    rw (p.1, p.2) (elim c.in_err-sensors.ensures.err [
      | inl memory ↦ inl memory
      | inr counts ↦ inr (sensors_first (table_view c.args.top.now.table.now) c.in_err-sensors.field-0.0 counts)
    ])

pub returns-in_err-channels-clause-err : goal.returns-in_err-channels-clause-err
returns-in_err-channels-clause-err c =
    let p = err_from_is_err_and c.from_residual-in_err-channels.result c.from_residual-in_err-channels.ensures.1 in
    rw (p.1, p.2) (elim c.in_err-channels.ensures.err [
      | inl memory ↦ inl memory
      | inr counts ↦ inr (channels_first (table_view c.args.top.now.table.now) c.in_err-channels.field-0.0 c.in_ok-sensors.ensures.sound counts)
    ])

pub returns-in_err-lans-clause-err : goal.returns-in_err-lans-clause-err
returns-in_err-lans-clause-err c =
    let p = err_from_is_err_and c.from_residual-in_err-lans.result c.from_residual-in_err-lans.ensures.1 in
    rw (p.1, p.2) (elim c.in_err-lans.ensures.err [
      | inl memory ↦ inl memory
      | inr counts ↦ inr (lans_first (table_view c.args.top.now.table.now) c.in_err-lans.field-0.0 c.in_ok-sensors.ensures.sound c.in_ok-channels.ensures.sound counts)
    ])

pub returns-clause-sound : goal.returns-clause-sound
returns-clause-sound c = no_ipmi_faults (table_view c.args.top.now.table.now) c.in_ok-sensors.ensures.sound c.in_ok-channels.ensures.sound c.in_ok-lans.ensures.sound

pub returns-clause-held : goal.returns-clause-held
returns-clause-held c =
    record {
      sensors = c.in_ok-sensors.ensures.held;
      channels = c.in_ok-channels.ensures.held;
      lans = c.in_ok-lans.ensures.held;
    }
