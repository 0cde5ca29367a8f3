use Rattle.std.proofs.Common.{◌≡◌, [], map, inl, inr, sym, ◌∙◌, ap}
use Rattle.std.proofs.lemmas.Result.{err_from_is_err_and}
use Rattle.toml.specs.View.{table_view}
use Rattle.text_fields.specs.declared.field.Field.TheVariants as field
use Rattle.text_board.specs.declared.fault.Item.TheVariants as item
use Rattle.text_board.specs.declared.tables.TheConstants.{DEVICE}
use Rattle.text_fields.specs.Trees.{table_in}
use Rattle.text_fields.specs.Faults.{field_faults, first}
use Rattle.text_board.specs.Faults.{fault_at}
use Rattle.text_board.proofs.FileFaults.{records_first, device_first, no_own_faults}
use Rattle.text_board.proofs.board.own_parts.Goals as goal

pub returns-in_err-sdr-clause-err : goal.returns-in_err-sdr-clause-err
returns-in_err-sdr-clause-err c =
    let p = err_from_is_err_and c.from_residual.result c.from_residual.ensures.1 in
    rw (p.1, p.2) (elim c.in_err-sdr.ensures.err [
      | inl memory ↦ inl memory
      | inr counts ↦ inr (records_first (table_view c.args.top.now.table.now) c.in_err-sdr.field-0.0 counts)
    ])

pub returns-in_err-board-clause-err : goal.returns-in_err-board-clause-err
returns-in_err-board-clause-err c =
    let p = err_from_is_err_and c.from_residual-in_err-board.result c.from_residual-in_err-board.ensures.1 in
    let counts = ap (λ t. first (map (fault_at item.Device) (field_faults DEVICE t))) (sym c.table.ensures) ∙ c.in_err-board.ensures.err in
    rw (p.1, p.2) (inr (device_first (table_view c.args.top.now.table.now) c.in_err-board.field-0.0 c.in_ok-sdr.ensures.sound counts))

pub returns-in_err-users-clause-err : goal.returns-in_err-users-clause-err
returns-in_err-users-clause-err c =
    let p = err_from_is_err_and c.from_residual-in_err-users.result c.from_residual-in_err-users.ensures.1 in
    rw (p.1, p.2) (inl c.in_err-users.ensures.err)

pub returns-clause-sound : goal.returns-clause-sound
returns-clause-sound c =
    let tree = table_view c.args.top.now.table.now in
    let device : field_faults DEVICE (table_in field.Device tree) ≡ [] = ap (field_faults DEVICE) (sym c.table.ensures) ∙ c.in_ok-board.ensures.sound in
    no_own_faults tree c.in_ok-sdr.ensures.sound device

pub returns-clause-held : goal.returns-clause-held
returns-clause-held c =
    record {
      terminus = c.byte.ensures.held;
      clock = c.number.ensures.held;
      log = c.log_capacity.ensures;
      enables = c.global_enables.ensures;
      policy = c.power_policy.ensures;
      watchdog = c.timer.ensures;
      sdr = c.in_ok-sdr.ensures.held;
      users = c.in_ok-users.ensures.held;
      boot = c.boot_options.ensures;
      device = rw (← c.table.ensures, ← c.in_ok-board.ensures.ok) c.device.ensures;
    }
