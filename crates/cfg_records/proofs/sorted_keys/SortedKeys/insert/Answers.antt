use Rattle.std.proofs.Common.{◌∙◌, is_ok, List, sym, ap, subst}
use Rattle.cfg_records.specs.SortedKeys.{Entry, AreRising, offset_in}
use Rattle.cfg_records.proofs.Entries.{offset_at, not_none, offset_more, rising_tried}
use Rattle.cfg_records.proofs.sorted_keys.SortedKeys.insert.Goals as goal

pub unreachable-requires : goal.unreachable-requires
unreachable-requires c =
    let store = c.args.self.now in
    not_none (offset_in store.entries.items c.args.key) _ (offset_at store.entries.items c.args.key store.rising c.in-Ok.field-0 c.in-Ok.ensures.found (c.args.key, c.args.offset)) c.requires

pub invariant_of-self : goal.invariant_of-self
invariant_of-self c =
    let store = c.args.self.now in
    record { rising = subst AreRising (sym c.insert.ensures.items) (rising_tried store.entries.items c.args.key c.args.offset c.in-Err.place store.rising c.in-Err.ensures.absent (is_ok c.insert.result)) }

pub returns : goal.returns
returns c = λ k.
    ap (λ (entries : List Entry). offset_in entries k) c.in_ok-insert-in-Err.ensures.items ∙ offset_more c.args.self.now.entries.items c.args.key c.args.offset c.in-Err.place c.requires k
