use Rattle.std.proofs.Common.{◌≡◌, ◌≤◌, ◌<◌, ℕ, List, length, Bool, true, false, nat_le, if◌then◌else◌, Option, Some, None, Result, Ok, Err, refl, sym, ◌∙◌, ap, arith, rules}
use Rattle.std.specs.Option.{option_copied}
use Rattle.std.proofs.lemmas.Bool.Decides.{nat_tests}
use Rattle.record_base.specs.AttributeRangeLaws.{le_true}
use Rattle.bios_attr.specs.declared.bios_attribute.AttributeLimits.{AttributeLimits}
use Rattle.record_kinds.specs.Entries.{first_fault}
use Rattle.record_kinds.specs.Stagings.{StagedParts, without, with_staged, or_else, room_fault, start_fault, unless, start_outcome, counted, after_part, PartLeaves}
use Rattle.record_kinds.proofs.stagings.Stagings.start.Goals as goal

-- what isn't refused has no fault
no_fault : (fault : Option ℕ) (done : Unit {0}) → unless fault tt ≡ Ok done → fault ≡ None
no_fault (Some other) done is = search rules
no_fault None done is = refl

-- a fault refuses the part
refuses : (limits : Option AttributeLimits) (stagings : StagedParts) (from : ℕ) (entry : List ℕ) (code : ℕ) → start_fault limits stagings from entry ≡ Some code → PartLeaves from (start_outcome limits stagings from entry) (Err code) stagings stagings
refuses limits stagings from entry code fault =
    let outcome : start_outcome limits stagings from entry ≡ Err code = ap (λ (f : Option ℕ). unless f entry) fault in
    (sym (ap counted outcome), sym (ap (λ (o : Result (List ℕ) ℕ). after_part from o stagings) outcome))

-- else it is staged
stages : (limits : Option AttributeLimits) (stagings after : StagedParts) (from : ℕ) (entry : List ℕ) → start_fault limits stagings from entry ≡ None → after ≡ with_staged from entry stagings
    → PartLeaves from (start_outcome limits stagings from entry) (Ok (length entry)) stagings after
stages limits stagings after from entry fault is =
    let outcome : start_outcome limits stagings from entry ≡ Ok entry = ap (λ (f : Option ℕ). unless f entry) fault in
    (sym (ap counted outcome), is ∙ sym (ap (λ (o : Result (List ℕ) ℕ). after_part from o stagings) outcome))

-- the fault of a part that the attribute takes is that of its place
behind_first : (given : Option AttributeLimits) (limits : AttributeLimits) (stagings : StagedParts) (from : ℕ) (entry : List ℕ) (fault : Option ℕ) → given ≡ Some limits → first_fault limits entry ≡ fault
    → start_fault given stagings from entry ≡ or_else fault (room_fault stagings from)
behind_first given limits stagings from entry fault is first =
    ap (λ (g : Option AttributeLimits). start_fault g stagings from entry) is ∙ ap (λ (f : Option ℕ). or_else f (room_fault stagings from)) first

full : (stagings : StagedParts) (from others : ℕ) → others ≡ length (without from stagings) → 8 ≤ others → room_fault stagings from ≡ Some 1
full stagings from others is many = ap (λ (b : Bool). if b then Some 1 else None) (ap (nat_le 8) (sym is) ∙ le_true 8 others many)

not_le : (n : ℕ) → n < 8 → nat_le 8 n ≡ false
not_le n few = grind (arith, nat_tests)

has_room : (stagings : StagedParts) (from others : ℕ) → others ≡ length (without from stagings) → others < 8 → room_fault stagings from ≡ None
has_room stagings from others is few = ap (λ (b : Bool). if b then Some 1 else None) (ap (nat_le 8) (sym is) ∙ not_le others few)

pub returns-in_default : goal.returns-in_default
returns-in_default c = refuses (option_copied c.args.limits) c.args.self.now c.args.from c.args.entry.now 136 (ap (λ (g : Option AttributeLimits). start_fault g c.args.self.now c.args.from c.args.entry.now) (ap option_copied c.in_default.is))

pub returns-then-others-ge-MOST_STAGINGS : goal.returns-then-others-ge-MOST_STAGINGS
returns-then-others-ge-MOST_STAGINGS c =
    let first = no_fault (first_fault c.in-Some.limits.now c.args.entry.now) _ (sym c.check_first.ensures ∙ c.in_ok-check_first.was) in
    refuses (option_copied c.args.limits) c.args.self.now c.args.from c.args.entry.now 1
    (behind_first (option_copied c.args.limits) c.in-Some.limits.now c.args.self.now c.args.from c.args.entry.now None (ap option_copied c.in-Some.is) first ∙ full c.args.self.now c.args.from c.others.result c.others.ensures c.if-others-ge-MOST_STAGINGS.true)

pub returns : goal.returns
returns c =
    let first = no_fault (first_fault c.in-Some.limits.now c.args.entry.now) _ (sym c.check_first.ensures ∙ c.in_ok-check_first.was) in
    stages (option_copied c.args.limits) c.args.self.now c.keep.new.self c.args.from c.args.entry.now
    (behind_first (option_copied c.args.limits) c.in-Some.limits.now c.args.self.now c.args.from c.args.entry.now None (ap option_copied c.in-Some.is) first ∙ has_room c.args.self.now c.args.from c.others.result c.others.ensures c.if-others-ge-MOST_STAGINGS.false)
    (c.keep.ensures ∙ ap (λ (xs : List ℕ). with_staged c.args.from xs c.args.self.now) c.from_slice.ensures)
