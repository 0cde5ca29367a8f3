use Rattle.std.proofs.Common.{rules, ◌≡◌, string_bytes}
use Rattle.report_words.specs.Changes.{change_told, held, type_at}
use Rattle.report_words.proofs.Named.{is_added}
use Rattle.report_words.proofs.first_records.push_told.Goals as goal

pub returns : goal.returns
returns g c =
    let told : c.as_str.result.now ≡ change_told c.args.types.now (g.S.Store.records c.args.store.now) c.args.first.now = search rules in
    is_added c.push_named.result (string_bytes c.args.text.now) (string_bytes c.push_named.new.text) c.args.names.now c.args.first.now.0
    (type_at c.args.types.now c.args.first.now.0) c.args.first.now.1 (held (g.S.Store.records c.args.store.now c.args.first.now.0)) _ c.as_str.result.now
    c.name_of.ensures told c.push_named.ensures
