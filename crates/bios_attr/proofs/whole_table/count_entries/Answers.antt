use Rattle.std.proofs.Common.{◌<◌, ◌+◌, List, ℕ, length, sym, arith, ◌∙◌, subst}
use Rattle.bios_attr.specs.ValueEntry.{IsByteList}
use Rattle.bios_attr.proofs.BodyFacts.{SoFar, small_rest, one_more, behind_less, whole_body, no_entry, no_padding, begins}
use Rattle.bios_attr.proofs.whole_table.count_entries.Goals as goal

pub returns-in_default : goal.returns-in_default
returns-in_default c =
    let unread = sym c.entry_at.ensures ∙ c.in_default.is in (
      no_entry c.args.table c.args.bytes.now c.loop-rest.rest.now c.loop-rest.count c.loop-rest.invariant c.loop-rest-test.true unread,
      record { rest = c.loop-rest.rest.now; begins = begins c.args.table c.args.bytes.now c.loop-rest.rest.now c.loop-rest.count c.loop-rest.invariant; long = c.loop-rest-test.true; unread = unread },
    )

pub loop-rest-smaller : goal.loop-rest-smaller
loop-rest-smaller c =
    let small : IsByteList c.loop-rest.rest.now = small_rest c.args.table c.args.bytes.now c.loop-rest.rest.now c.loop-rest.count c.loop-rest.invariant (λ i. let fits = c.type_inv.bytes i in omega (arith, fits)) in
    subst (λ (xs : List ℕ). length xs < length c.loop-rest.rest.now) (sym c.as_slice-rest.ensures)
    (behind_less c.args.table c.loop-rest.rest.now c.in-Some.behind c.in-Some.field-0-0 small (sym c.entry_at.ensures ∙ c.in-Some.is))

pub loop-rest-preserved : goal.loop-rest-preserved
loop-rest-preserved c =
    let small : IsByteList c.loop-rest.rest.now = small_rest c.args.table c.args.bytes.now c.loop-rest.rest.now c.loop-rest.count c.loop-rest.invariant (λ i. let fits = c.type_inv.bytes i in omega (arith, fits)) in
    subst (λ (xs : List ℕ). SoFar c.args.table c.args.bytes.now xs (c.loop-rest.count + 1)) (sym c.as_slice-rest.ensures)
    (one_more c.args.table c.args.bytes.now c.loop-rest.rest.now c.in-Some.behind c.loop-rest.count c.in-Some.field-0-0 c.loop-rest.invariant small c.loop-rest-test.true (sym c.entry_at.ensures ∙ c.in-Some.is))

pub returns-then-is_padding : goal.returns-then-is_padding
returns-then-is_padding c =
    whole_body c.args.table c.args.bytes.now c.loop-rest.rest.now c.loop-rest.count c.loop-rest.invariant c.requires c.loop-rest-test.false (sym c.is_padding.ensures ∙ c.if-is_padding.true)

pub returns-else-is_padding : goal.returns-else-is_padding
returns-else-is_padding c =
    let other = sym c.is_padding.ensures ∙ c.if-is_padding.false in (
      no_padding c.args.table c.args.bytes.now c.loop-rest.rest.now c.loop-rest.count c.loop-rest.invariant c.loop-rest-test.false other,
      record { rest = c.loop-rest.rest.now; begins = begins c.args.table c.args.bytes.now c.loop-rest.rest.now c.loop-rest.count c.loop-rest.invariant; short = c.loop-rest-test.false; other = other },
    )
