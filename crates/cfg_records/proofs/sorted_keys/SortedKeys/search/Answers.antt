use Rattle.std.proofs.Common.{rules, IfOk, IfErr, List, subst}
use Rattle.std.specs.List.Sorted.{IsBinarySearchResult}
use Rattle.std.proofs.lemmas.List.Sorted.{answers_always}
use Rattle.record_base.specs.Keys.{key_cmp}
use Rattle.cfg_records.specs.SortedKeys.{Entry, AreRising, IsAt, IsGapFor}
use Rattle.cfg_records.proofs.Entries.{searched}
use Rattle.cfg_records.proofs.sorted_keys.SortedKeys.search.Goals as goal

pub returns-clause-found : goal.returns-clause-found
returns-clause-found c =
    let facts = c.binary_search_by_key.ensures in
    let by_key : IsBinarySearchResult (λ (entry : Entry). key_cmp entry.0 c.args.key.now) c.deref.result.now c.binary_search_by_key.result = facts.position (λ entry. entry.0) (answers_always _ _ _ (λ f a r g called. search rules)) in
    let rising : AreRising c.deref.result.now = rw c.deref.ensures.value c.args.self.now.rising in
    subst (λ (entries : List Entry). IfOk c.binary_search_by_key.result (IsAt entries c.args.key.now)) c.deref.ensures.value
    (searched c.deref.result.now c.args.key.now rising c.binary_search_by_key.result facts.bound by_key).0

pub returns-clause-absent : goal.returns-clause-absent
returns-clause-absent c =
    let facts = c.binary_search_by_key.ensures in
    let by_key : IsBinarySearchResult (λ (entry : Entry). key_cmp entry.0 c.args.key.now) c.deref.result.now c.binary_search_by_key.result = facts.position (λ entry. entry.0) (answers_always _ _ _ (λ f a r g called. search rules)) in
    let rising : AreRising c.deref.result.now = rw c.deref.ensures.value c.args.self.now.rising in
    subst (λ (entries : List Entry). IfErr c.binary_search_by_key.result (IsGapFor entries c.args.key.now)) c.deref.ensures.value
    (searched c.deref.result.now c.args.key.now rising c.binary_search_by_key.result facts.bound by_key).1
