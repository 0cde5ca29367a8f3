use Rattle.std.proofs.Common.{◌≡◌, ◌≤◌, true, List, map, length, is_some, nat_le, inr, sym, ◌∙◌, ap, subst}
use Rattle.std.proofs.lemmas.Bool.{and_parts, false≢true}
use Rattle.std.proofs.lemmas.Slice.Zip.{AllZip-long}
use Rattle.std.specs.List.{list_all, AllZip}
use Rattle.toml.specs.Data.{Data}
use Rattle.toml.specs.View.{view, table_view}
use Rattle.record_base.specs.AttributeRangeLaws.{true_le}
use Rattle.record_base.specs.Sdr.{sdr_id}
use Rattle.record_base.specs.Distinct.{NamesDiffer}
use Rattle.text_fields.specs.declared.field.Field.TheVariants as field
use Rattle.text_fields.specs.declared.row.Shape.TheVariants as shape
use Rattle.text_fields.specs.Trees.{members_in}
use Rattle.text_fields.specs.Ranges.{record_in, is_in_range}
use Rattle.text_fields.specs.Faults.{first}
use Rattle.text_board.specs.Holds.{IsRecordIn}
use Rattle.text_board.proofs.RecordIds.{none_at_fault, one_twice}
use Rattle.text_board.proofs.board.sdr.Goals as goal

pub returns-in-Some-clause-sound : goal.returns-in-Some-clause-sound
returns-in-Some-clause-sound c =
    let records = c.in_ok-records.records.items in
    let listed : map view c.members_of.result.now ≡ members_in field.Sdr (table_view c.args.top.now.table.now) = c.members_of.ensures ∙ sym c.value.ensures.listed in
    let zip : AllZip IsRecordIn (members_in field.Sdr (table_view c.args.top.now.table.now)) records = subst (λ (ds : List Data). AllZip IsRecordIn ds records) listed c.in_ok-records.ensures.held in
    none_at_fault _ records zip (subst (NamesDiffer sdr_id) c.in-Some.ensures.items c.in-Some.records.differ)

pub returns-in-None-clause-err : goal.returns-in-None-clause-err
returns-in-None-clause-err c =
    let tree = table_view c.args.top.now.table.now in
    let records = c.in_ok-records.records.items in
    let ds = map view c.members_of.result.now in
    let listed : ds ≡ members_in field.Sdr tree = c.members_of.ensures ∙ sym c.value.ensures.listed in
    let zip : AllZip IsRecordIn (members_in field.Sdr tree) records = subst (λ (ds : List Data). AllZip IsRecordIn ds records) listed c.in_ok-records.ensures.held in
    let within : is_in_range tree (shape.Records 64) (view c.value.result.now) ≡ true = rw c.requires at c.value.ensures.within in
    let (few, all) = and_parts (nat_le (length ds) 64) (list_all (λ d. is_some (record_in d)) ds) (rw (← c.members_of.ensures) at within) in
    let short : length records ≤ 64 = rw (AllZip-long IsRecordIn ds records c.in_ok-records.ensures.held) (true_le (length ds) 64 few) in
    inr (ap first (one_twice _ records zip (λ differ. false≢true (ap is_some (sym c.in-None.is) ∙ c.new.ensures.made.1 (differ, short)))))
