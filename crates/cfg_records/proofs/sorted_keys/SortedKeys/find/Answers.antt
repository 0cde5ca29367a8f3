use Rattle.std.proofs.Common.{Some, sym, ◌∙◌, ap}
use Rattle.cfg_records.proofs.Entries.{offset_at, offset_in_gap}
use Rattle.cfg_records.proofs.sorted_keys.SortedKeys.find.Goals as goal

pub returns-in-Some : goal.returns-in-Some
returns-in-Some c =
    let store = c.args.self.now in
    sym (offset_at store.entries.items c.args.key.now store.rising c.in-Some.place c.in-Some.ensures c.index.result.now ∙ ap (λ e. Some e.1) (sym c.index.ensures))

pub returns-in-Ok : goal.returns-in-Ok
returns-in-Ok c =
    let store = c.args.self.now in
    sym (offset_at store.entries.items c.args.key.now store.rising c.in-Ok.place c.in-Ok.ensures.found c.index-in-Ok.result.now ∙ ap (λ e. Some e.1) (sym c.index-in-Ok.ensures))

pub returns-in-Err : goal.returns-in-Err
returns-in-Err c = sym (offset_in_gap c.args.self.now.entries.items c.args.key.now _ c.in-Err.ensures.absent)
