use Rattle.std.proofs.Common.{arith, inr, refl}
use Rattle.text_lines.proofs.UndoLists.{bad_numbers, bad_names, headed, bad_line, read_is}
use Rattle.text_lines.proofs.undo_text.read_undo.Goals as goal

pub returns-in_default-first_numbers-clause-fault : goal.returns-in_default-first_numbers-clause-fault
returns-in_default-first_numbers-clause-fault c =
    inr (2, refl, bad_numbers c.in-Some.begun.0 c.args.text.now c.in-Some.begun.1.now c.in-Some.ensures.some c.in_default-first_numbers.ensures.none)

pub returns-in_default-version_names-clause-fault : goal.returns-in_default-version_names-clause-fault
returns-in_default-version_names-clause-fault c =
    let none = c.in_default-version_names.ensures.none in
    inr (
      3,
      refl,
      bad_names c.in-Some.begun.0 c.args.text.now c.in-Some.begun.1.now c.in-Some-first_numbers.numbered.1.now _ none.0 c.in-Some.ensures.some c.in-Some-first_numbers.ensures.some none.1,
    )

pub returns-in-Err-clause-fault : goal.returns-in-Err-clause-fault
returns-in-Err-clause-fault c =
    let named = c.in-Some-version_names.ensures in
    bad_line c.in-Err.why c.in-Some.begun.0 c.args.text.now c.in-Some-version_names.named.1.now _ c.in-Some-version_names.named.0 named.version
    (headed c.in-Some.begun.0 c.args.text.now c.in-Some.begun.1.now c.in-Some-first_numbers.numbered.1.now _ _ _ named.version c.in-Some.ensures.some c.in-Some-first_numbers.ensures.some named.some)
    c.in-Err.ensures.fault

pub returns-in-Ok-clause-list : goal.returns-in-Ok-clause-list
returns-in-Ok-clause-list c =
    let named = c.in-Some-version_names.ensures in
    read_is c.args.text.now c.in-Some-version_names.named.1.now _ c.in-Some-version_names.named.0 c.in-Ok.requests.members _
    (headed c.in-Some.begun.0 c.args.text.now c.in-Some.begun.1.now c.in-Some-first_numbers.numbered.1.now _ _ _ named.version c.in-Some.ensures.some c.in-Some-first_numbers.ensures.some named.some)
    c.in-Ok.ensures.lines (omega (arith, c.in-Ok.ensures.few)) refl refl c.reverse.ensures.members
