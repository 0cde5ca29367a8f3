use Rattle.std.proofs.Common.{rules, ◌≡◌, true, arith}
use Rattle.record_base.specs.Keys.{same_key}
use Rattle.cfg_records.specs.SortedKeys.{Entry, key_of}
use Rattle.cfg_records.proofs.Entries.{read_at}
use Rattle.cfg_records.proofs.sorted_keys.SortedKeys.guess.Goals as goal

pub returns-then-is_eq : goal.returns-then-is_eq
returns-then-is_eq c =
    let store = c.args.self.now in
    let entry : Entry = c.index.result.now in
    let same : same_key (key_of entry) c.args.key.now ≡ true = search rules in
    read_at store.entries.items c.args.key.now _ entry (omega (arith, c.len.ensures, store.entries.ok.0, c.if-place-len.true)) c.index.ensures same
