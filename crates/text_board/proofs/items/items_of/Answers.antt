use Rattle.std.proofs.Common.{◌≡◌, ◌∙◌, ◌+◌, ap, sym, false, ◌++◌, ◌∷◌, [], ◌==◌, map, take, drop, inl, inr}
use Rattle.std.proofs.lemmas.List.{drop_all, take_all}
use Rattle.std.proofs.lemmas.Result.{err_from_is_err_and}
use Rattle.std.specs.List.{list_any, AllZip}
use Rattle.toml.specs.View.{view}
use Rattle.text_fields.specs.Trees.{table_of}
use Rattle.text_board.specs.Items.{InTable}
use Rattle.toml.specs.declared.value.Value.{Value}
use Rattle.text_fields.specs.Ranges.{is_table}
use Rattle.text_fields.proofs.Members.{each_passes, next_zip}
use Rattle.text_board.proofs.ItemFaults.{none_left, fault_here, next_left, next_differs}
use Rattle.text_board.proofs.items.items_of.Goals as goal

pub returns-clause-sound : goal.returns-clause-sound
returns-clause-sound g c =
    let reader = g.R.ArrayReader in
    let i = c.loop-value.value-index in
    let none : drop i c.args.values.now ≡ [] = drop_all i c.args.values.now c.loop-value-test.false in
    none_left i c.args.values.now reader.item_at (reader.rows c.args.reader.now) reader.named none c.loop-value.invariant.left

pub returns-clause-held : goal.returns-clause-held
returns-clause-held g c = rw (take_all c.loop-value.value-index c.args.values.now c.loop-value-test.false) at c.loop-value.invariant.zip

pub next_item-requires : goal.next_item-requires
next_item-requires g c =
    each_passes (λ (value : Value). is_table (view value)) c.args.values.now c.loop-value.value-index c.value-item.result c.requires c.loop-value-test.true c.value-item.is

pub loop-value-preserved : goal.loop-value-preserved
loop-value-preserved g c =
    let reader = g.R.ArrayReader in
    let number_of = g.R.Entry.Numbered.number_of in
    let values = c.args.values.now in
    let i = c.loop-value.value-index in
    let v = c.value-item.result in
    let before = c.loop-value.items.items in
    let item = c.in_ok-item.item in
    let pushed : c.push.new.self.items ≡ before ++ item ∷ [] = c.in-Ok.ensures.items in
    let same : c.as_slice.result.now ≡ before = c.as_slice.ensures.value in
    let fresh : list_any (λ other. number_of other == number_of item) before ≡ false =
    ap (list_any (λ other. number_of other == number_of item)) (sym same) ∙ c.in_ok-item.ensures.fresh in
    rw pushed (record {
      zip = next_zip values i v c.loop-value-test.true c.value-item.is (InTable reader.holds) before item c.loop-value.invariant.zip c.in_ok-item.ensures.held;
      left = next_left values i v c.loop-value-test.true c.value-item.is (InTable reader.holds) reader.item_at (reader.rows c.args.reader.now) reader.named number_of (λ d a held. g.met.R.ArrayReader.numbered (table_of d) a held) before item c.loop-value.invariant.zip c.in_ok-item.ensures.held c.in_ok-item.ensures.sound fresh c.loop-value.invariant.left;
      differ = next_differs number_of before item c.loop-value.invariant.differ fresh;
    })

pub returns-in_err-item-clause-err : goal.returns-in_err-item-clause-err
returns-in_err-item-clause-err g c =
    let reader = g.R.ArrayReader in
    let p = err_from_is_err_and c.from_residual.result c.from_residual.ensures.1 in
    let values = c.args.values.now in
    let i = c.loop-value.value-index in
    let v = c.value-item.result in
    let zip : AllZip (InTable reader.holds) (map view (take i values)) c.as_slice.result.now = rw c.as_slice.ensures.value c.loop-value.invariant.zip in
    rw (p.1, p.2) (elim c.in_err-item.ensures.err [
      | inl memory ↦ inl memory
      | inr counts ↦ inr (fault_here values i v c.loop-value-test.true c.value-item.is reader.item_at (reader.rows c.args.reader.now) reader.named c.in_err-item.field-0.0
          c.loop-value.invariant.left (counts (map view (take i values)) (map view (drop (i + 1) values)) zip))
    ])
