use Rattle.std.proofs.Common.{◌≡◌, ◌++◌, ℕ, List, arith, codes, string_bytes, subst}
use Rattle.std.specs.Prelude.{OnOk}
use Rattle.hex.specs.Hex.{encode_upper}
use Rattle.text_journal.proofs.WrittenBytes.{on_ok, written_bytes}
use Rattle.text_journal.proofs.WrittenDigits.{line_of_digits}
use Rattle.text_journal.proofs.writing.push_bytes.Goals as goal

pub returns-in_err-push_str-clause-line : goal.returns-in_err-push_str-clause-line
returns-in_err-push_str-clause-line c = written_bytes c.args.words.now c.args.bytes.now (λ i. omega (arith, c.type_inv.bytes i))

pub returns-in_err-push_digits-clause-line : goal.returns-in_err-push_digits-clause-line
returns-in_err-push_digits-clause-line c = written_bytes c.args.words.now c.args.bytes.now (λ i. omega (arith, c.type_inv.bytes i))

pub returns-clause-line : goal.returns-clause-line
returns-clause-line c = written_bytes c.args.words.now c.args.bytes.now (λ i. omega (arith, c.type_inv.bytes i))

pub returns-clause-text : goal.returns-clause-text
returns-clause-text c =
    let whole = string_bytes c.push_digits.new.text in
    subst (λ (l : List ℕ). OnOk c.push_str-2.result (string_bytes c.push_str-2.new.self ≡ l))
    (line_of_digits (string_bytes c.args.text.now) c.args.words.now (encode_upper c.args.bytes.now) (string_bytes c.push_str.new.self) whole c.in_ok-push_str.ensures.bytes c.in_ok-push_digits.ensures)
    (on_ok c.push_str-2.result (string_bytes c.push_str-2.new.self) (whole ++ codes "\n") whole c.push_str-2.ensures.bytes)
