use Rattle.std.proofs.Common.{◌≡◌, ◌++◌, ◌∷◌, [], is_some, sym, ap, ◌∙◌}
use Rattle.std.proofs.lemmas.List.{take_all}
use Rattle.toml.specs.View.{view}
use Rattle.text_board.specs.Holds.{IsRecordIn}
use Rattle.text_fields.specs.Ranges.{record_in}
use Rattle.text_fields.proofs.Members.{next_zip, each_view}
use Rattle.text_board.proofs.board.records_of.Goals as goal

pub unwrap-requires : goal.unwrap-requires
unwrap-requires c = ap is_some c.record.ensures ∙ each_view (λ d. is_some (record_in d)) c.args.values.now c.loop-value.value-index c.value-item.result c.requires c.loop-value-test.true c.value-item.is

pub returns-clause-held : goal.returns-clause-held
returns-clause-held c = rw (take_all c.loop-value.value-index c.args.values.now c.loop-value-test.false) at c.loop-value.invariant

pub loop-value-preserved : goal.loop-value-preserved
loop-value-preserved c =
    let i = c.loop-value.value-index in
    let before = c.loop-value.records.items in
    let bytes = c.unwrap.result in
    let pushed : c.push.new.self.items ≡ before ++ bytes ∷ [] = c.in-Ok.ensures.items in
    let holds : IsRecordIn (view c.value-item.result) bytes = sym c.record.ensures ∙ c.unwrap.ensures in
    rw pushed (next_zip c.args.values.now i c.value-item.result c.loop-value-test.true c.value-item.is IsRecordIn before bytes c.loop-value.invariant holds)
