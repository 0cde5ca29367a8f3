use Rattle.std.proofs.Common.{rules, ◌≡◌, ◌==◌, ◌<◌, true, false, List, ℕ, length, sym, ◌∙◌, subst}
use Rattle.report_words.specs.TableEntries.{number_of}
use Rattle.bios_attr.proofs.BodyFacts.{behind_less}
use Rattle.report_words.proofs.Body.{IsLeft, none_left, none_read, one_found, one_passed}
use Rattle.report_words.proofs.table_entries.find_in_body.Goals as goal

pub returns-in_default : goal.returns-in_default
returns-in_default c =
    none_read c.args.table c.args.bytes.now c.loop-rest.rest.now c.args.number c.loop-rest.invariant (sym c.entry_at.ensures ∙ c.in_default.is) c.loop-rest-test.true

pub returns-then-number_of-number : goal.returns-then-number_of-number
returns-then-number_of-number c =
    let here : (number_of c.in-Some.entry == c.args.number) ≡ true = search rules in
    one_found c.args.table c.args.bytes.now c.loop-rest.rest.now c.args.number c.loop-rest.invariant c.in-Some.behind c.in-Some.entry (sym c.entry_at.ensures ∙ c.in-Some.is)
    c.loop-rest-test.true here

pub loop-rest-smaller : goal.loop-rest-smaller
loop-rest-smaller c =
    subst (λ (xs : List ℕ). length xs < length c.loop-rest.rest.now) (sym c.as_slice-rest.ensures)
    (behind_less c.args.table c.loop-rest.rest.now c.in-Some.behind c.in-Some.entry c.loop-rest.invariant.small (sym c.entry_at.ensures ∙ c.in-Some.is))

pub loop-rest-preserved : goal.loop-rest-preserved
loop-rest-preserved c =
    let other : (number_of c.in-Some.entry == c.args.number) ≡ false = search rules in
    subst (λ (xs : List ℕ). IsLeft c.args.table c.args.bytes.now xs c.args.number) (sym c.as_slice-rest.ensures)
    (one_passed c.args.table c.args.bytes.now c.loop-rest.rest.now c.args.number c.loop-rest.invariant c.in-Some.behind c.in-Some.entry (sym c.entry_at.ensures ∙ c.in-Some.is)
    c.loop-rest-test.true other)

pub returns : goal.returns
returns c = none_left c.args.table c.args.bytes.now c.loop-rest.rest.now c.args.number c.loop-rest.invariant c.loop-rest-test.false
