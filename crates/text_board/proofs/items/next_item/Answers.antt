use Rattle.std.proofs.Common.{◌≡◌, ◌==◌, length, sym, ◌∙◌, ap, rules, inl, inr}
use Rattle.std.specs.List.{list_any}
use Rattle.std.proofs.lemmas.Result.{err_from_is_err_and}
use Rattle.toml.specs.View.{view, table_view}
use Rattle.text_fields.specs.Trees.{number_in, table_of}
use Rattle.text_fields.specs.Faults.{first, field_faults}
use Rattle.text_board.specs.Faults.{own_faults}
use Rattle.text_board.specs.Items.{InTable}
use Rattle.text_board.proofs.ItemFaults.{field_first, taken_first}
use Rattle.text_board.proofs.items.next_item.Goals as goal

pub returns-in_err-item-clause-err : goal.returns-in_err-item-clause-err
returns-in_err-item-clause-err g c =
    let reader = g.R.ArrayReader in
    let rows = reader.rows c.args.reader.now in
    let before = c.args.before.now in
    let p = err_from_is_err_and c.from_residual.result c.from_residual.ensures.1 in
    let table : table_of (view c.args.value.now) ≡ table_view c.unwrap-table.result.now = search rules in
    rw (p.1, p.2) (elim c.in_err-item.ensures.err [
      | inl memory ↦ inl memory
      | inr counts ↦ inr (λ seen ds zip.
          field_first (InTable reader.holds) reader.item_at rows reader.named g.R.Entry.Numbered.number_of (λ d a held. g.met.R.ArrayReader.numbered (table_of d) a held) seen ds (view c.args.value.now) before c.in_err-item.field-0.0 zip
          (ap (λ t. first (own_faults (reader.item_at (length before)) rows t)) table ∙ counts))
    ])

pub returns-then-is_taken-clause-err : goal.returns-then-is_taken-clause-err
returns-then-is_taken-clause-err g c =
    let reader = g.R.ArrayReader in
    let rows = reader.rows c.args.reader.now in
    let number_of = g.R.Entry.Numbered.number_of in
    let before = c.args.before.now in
    let item = c.in_ok-item.item in
    let table : table_of (view c.args.value.now) ≡ table_view c.unwrap-table.result.now = search rules in
    let number = ap (number_in reader.named) table ∙ g.met.R.ArrayReader.numbered (table_view c.unwrap-table.result.now) item c.in_ok-item.ensures.held in
    let some = ap (λ n. list_any (λ other. number_of other == n) before) (sym c.number.ensures) ∙ sym c.is_taken.ensures ∙ c.if-is_taken.true in
    rw c.number_place.ensures (inr (λ seen ds zip.
    taken_first (InTable reader.holds) reader.item_at rows reader.named number_of (λ d a held. g.met.R.ArrayReader.numbered (table_of d) a held) seen ds (view c.args.value.now) before (number_of item) zip
    (ap (λ t. field_faults (rows t) t) table ∙ c.in_ok-item.ensures.sound) number some))

pub returns-clause-sound : goal.returns-clause-sound
returns-clause-sound g c =
    let rows = g.R.ArrayReader.rows c.args.reader.now in
    let table : table_of (view c.args.value.now) ≡ table_view c.unwrap-table.result.now = search rules in
    ap (λ t. field_faults (rows t) t) table ∙ c.in_ok-item.ensures.sound
