use Rattle.std.proofs.Common.{rules, ◌≡◌, ◌↔◌, IsNone, ℕ, List, Option, refl, sym, subst}
use Rattle.cfg_records.specs.Index.{place_of}
use Rattle.record_base.specs.declared.key.Key.{Key}
use Rattle.cfg_records.specs.Records.{Pair}
use Rattle.cfg_records.specs.Places.{value_at}
use Rattle.cfg_records.proofs.Placed.{absent_together}
use Rattle.cfg_records.proofs.plain_store.PlainStoreStore.find.Goals as goal

pub returns-clause-absent : goal.returns-clause-absent
returns-clause-absent c =
    let pairs : List Pair = c.args.self.now.records.items in
    let places : Key → Option ℕ = place_of c.args.self.now.places in
    let key : Key = c.args.key.now in
    let same : c.place_of.result ≡ places key = search rules in
    subst (λ (found : Option ℕ). IsNone found ↔ IsNone (value_at pairs (places key))) (sym same) (absent_together pairs places c.args.self.now.placed key (places key) refl)
