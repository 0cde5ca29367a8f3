use Rattle.std.proofs.Common.{◌≡◌, ◌++◌, ◌∷◌, [], ◌∙◌, ℕ, List, ap, arith, codes, string_bytes, subst, sym}
use Rattle.std.specs.Prelude.{OnOk}
use Rattle.hex.specs.Hex.{encode_upper}
use Rattle.text_lines.specs.Cuts.{ended}
use Rattle.text_lines.specs.UndoText.{name_of}
use Rattle.text_lines.proofs.UndoLines.{bytes_cons, digits_behind}
use Rattle.text_journal.proofs.WrittenBytes.{on_ok, written_bytes}
use Rattle.text_journal.proofs.WrittenDigits.{line_of_both}
use Rattle.text_journal.proofs.writing.push_headed.Goals as goal

pub returns-in_err-push_str-clause-line : goal.returns-in_err-push_str-clause-line
returns-in_err-push_str-clause-line c =
    written_bytes (name_of c.args.bus) (c.args.first ∷ c.args.command ∷ c.args.body.now)
    (bytes_cons c.args.first (c.args.command ∷ c.args.body.now) (omega (arith, c.ranges.first.fits)) (bytes_cons c.args.command c.args.body.now (omega (arith, c.ranges.command.fits)) (λ i. omega (arith, c.type_inv.body i))))

pub returns-in_err-push_digits-clause-line : goal.returns-in_err-push_digits-clause-line
returns-in_err-push_digits-clause-line c =
    written_bytes (name_of c.args.bus) (c.args.first ∷ c.args.command ∷ c.args.body.now)
    (bytes_cons c.args.first (c.args.command ∷ c.args.body.now) (omega (arith, c.ranges.first.fits)) (bytes_cons c.args.command c.args.body.now (omega (arith, c.ranges.command.fits)) (λ i. omega (arith, c.type_inv.body i))))

pub returns-in_err-push_digits-2-clause-line : goal.returns-in_err-push_digits-2-clause-line
returns-in_err-push_digits-2-clause-line c =
    written_bytes (name_of c.args.bus) (c.args.first ∷ c.args.command ∷ c.args.body.now)
    (bytes_cons c.args.first (c.args.command ∷ c.args.body.now) (omega (arith, c.ranges.first.fits)) (bytes_cons c.args.command c.args.body.now (omega (arith, c.ranges.command.fits)) (λ i. omega (arith, c.type_inv.body i))))

pub returns-clause-line : goal.returns-clause-line
returns-clause-line c =
    written_bytes (name_of c.args.bus) (c.args.first ∷ c.args.command ∷ c.args.body.now)
    (bytes_cons c.args.first (c.args.command ∷ c.args.body.now) (omega (arith, c.ranges.first.fits)) (bytes_cons c.args.command c.args.body.now (omega (arith, c.ranges.command.fits)) (λ i. omega (arith, c.type_inv.body i))))

pub returns-clause-text : goal.returns-clause-text
returns-clause-text c =
    let old = string_bytes c.args.text.now in
    let front = encode_upper (c.args.first ∷ c.args.command ∷ []) in
    let digits = encode_upper c.args.body.now in
    let whole = string_bytes c.push_digits-2.new.text in
    let named = c.in_ok-push_str.ensures.bytes ∙ ap (λ (l : List ℕ). old ++ l) c.bus_words.ensures in
    subst (λ (l : List ℕ). OnOk c.push_str-2.result (string_bytes c.push_str-2.new.self ≡ l))
    (line_of_both old (name_of c.args.bus) front digits (string_bytes c.push_str.new.self) (string_bytes c.push_digits.new.text) whole named c.in_ok-push_digits.ensures c.in_ok-push_digits-2.ensures
    ∙ ap (λ (l : List ℕ). old ++ ended (name_of c.args.bus ++ l)) (sym (digits_behind c.args.first c.args.command c.args.body.now)))
    (on_ok c.push_str-2.result (string_bytes c.push_str-2.new.self) (whole ++ codes "\n") whole c.push_str-2.ensures.bytes)
