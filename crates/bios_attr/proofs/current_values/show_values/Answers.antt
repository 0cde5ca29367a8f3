use Rattle.std.proofs.Common.{◌≡◌, ◌+◌, ◌++◌, ◌∷◌, [], ℕ, List, take, get_or, sym, ◌∙◌, ap, subst, arith, Result}
use Rattle.std.proofs.lemmas.List.{take_more, take_all}
use Rattle.std.proofs.lemmas.List.Elements.{All-push}
use Rattle.std.specs.Result.{OnOk}
use Rattle.std.specs.declared.alloc.AllocError.{AllocError}
use Rattle.record_base.specs.AttributeValue.{two_bytes}
use Rattle.bios_attr.specs.declared.current_values.EntryHead.{EntryHead}
use Rattle.bios_attr.specs.AttributeLaws.{pieces_more}
use Rattle.bios_attr.specs.Tables.{IsTable}
use Rattle.bios_attr.specs.Values.{value_entries, IsShown}
use Rattle.bios_attr.proofs.Contents.{AreShown}
use Rattle.bios_attr.proofs.current_values.show_values.Goals as goal

pub loop-head-preserved : goal.loop-head-preserved
loop-head-preserved g c =
    let values : ℕ → List ℕ = g.V.CurrentValues.value_of c.args.current.now in
    let none : EntryHead = record { attribute = 0; code = 0 } in
    let item : EntryHead = get_or c.args.heads.now c.loop-head.head-index none in
    let before : List EntryHead = take c.loop-head.head-index c.args.heads.now in
    let entry : EntryHead → List ℕ = λ head. two_bytes head.attribute ++ head.code ∷ values head.attribute in
    let more : take (c.loop-head.head-index + 1) c.args.heads.now ≡ before ++ item ∷ [] = take_more c.args.heads.now c.loop-head.head-index none (omega arith) in
    let shown : IsShown (values item.attribute) = subst IsShown c.value.ensures.value (record { small = c.push_value.ensures.small; short = c.value.ensures.few }) in
    let bytes : c.push_value.new.table.items ≡ value_entries values (take (c.loop-head.head-index + 1) c.args.heads.now) =
    c.push_value.ensures.bytes
    ∙ ap (λ (xs : List ℕ). xs ++ (two_bytes item.attribute ++ item.code ∷ c.value.result.now)) c.loop-head.invariant.0
    ∙ ap (λ (xs : List ℕ). value_entries values before ++ (two_bytes item.attribute ++ item.code ∷ xs)) c.value.ensures.value
    ∙ sym (ap (value_entries values) more ∙ pieces_more entry before item) in (
      bytes,
      omega (arith, c.loop-head.invariant.1, c.push_value.ensures.len, c.value.ensures.few),
      omega (arith, c.loop-head.invariant.2, c.push_value.ensures.capacity),
      subst (AreShown values) (sym more) (All-push (λ (head : EntryHead). IsShown (values head.attribute)) before item c.loop-head.invariant.3 shown),
    )

pub loop-head-init : goal.loop-head-init
loop-head-init g c = (
  c.clear.ensures.items,
  omega (arith, c.clear.ensures.len),
  omega (arith, c.clear.ensures.capacity),
  λ k d below. absurd (omega (arith, below)),
)

pub push_value-requires : goal.push_value-requires
push_value-requires g c = omega (arith, c.requires, c.loop-head.invariant.1, c.loop-head.invariant.2, c.value.ensures.few)

pub unwrap-requires : goal.unwrap-requires
unwrap-requires g c = c.finish.ensures.room (omega (arith, c.requires, c.loop-head.invariant.1, c.loop-head.invariant.2))

pub returns-clause-table : goal.returns-clause-table
returns-clause-table g c =
    let values : ℕ → List ℕ = g.V.CurrentValues.value_of c.args.current.now in
    let whole : take c.loop-head.head-index c.args.heads.now ≡ c.args.heads.now = take_all c.loop-head.head-index c.args.heads.now c.loop-head-test.false in
    let shown : IsTable c.loop-head.table.items c.finish.new.table.items =
    subst (λ (r : Result (Unit {0}) AllocError). OnOk r (IsTable c.loop-head.table.items c.finish.new.table.items)) c.unwrap.ensures c.finish.ensures.table in
    subst (λ (entries : List ℕ). IsTable entries c.finish.new.table.items) (c.loop-head.invariant.0 ∙ ap (value_entries values) whole) shown

pub returns-clause-shown : goal.returns-clause-shown
returns-clause-shown g c =
    let whole : take c.loop-head.head-index c.args.heads.now ≡ c.args.heads.now = take_all c.loop-head.head-index c.args.heads.now c.loop-head-test.false in
    subst (AreShown (g.V.CurrentValues.value_of c.args.current.now)) whole c.loop-head.invariant.3

pub returns-clause-capacity : goal.returns-clause-capacity
returns-clause-capacity g c = omega (arith, c.loop-head.invariant.2, c.finish.ensures.capacity)
