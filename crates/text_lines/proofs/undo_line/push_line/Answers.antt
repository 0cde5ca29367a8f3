use Rattle.std.proofs.Common.{◌≡◌, ◌++◌, ◌∷◌, [], ℕ, List, string_bytes, sym, ◌∙◌, ap, subst, arith}
use Rattle.std.specs.Prelude.{OnOk}
use Rattle.hex.specs.Hex.{encode_upper}
use Rattle.text_lines.specs.Cuts.{ended}
use Rattle.text_lines.proofs.UndoLines.{bytes_cons, digits_behind, line_ended}
use Rattle.text_lines.proofs.undo_line.push_line.Goals as goal

pub returns-clause-bytes : goal.returns-clause-bytes
returns-clause-bytes c =
    bytes_cons c.args.first (c.args.command ∷ c.args.body.now) (omega (arith, c.ranges.first.fits)) (bytes_cons c.args.command c.args.body.now (omega (arith, c.ranges.command.fits)) (λ i. omega (arith, c.type_inv.body i)))

pub returns-clause-text : goal.returns-clause-text
returns-clause-text c =
    let named : string_bytes c.in_ok-named.named ≡ encode_upper (c.args.first ∷ c.args.command ∷ []) = c.in_ok-named.ensures in
    let digits : string_bytes c.in_ok-digits.digits ≡ encode_upper c.args.body.now = c.in_ok-digits.ensures in
    let all : string_bytes c.in_ok-named.named ++ string_bytes c.in_ok-digits.digits ≡ encode_upper (c.args.first ∷ c.args.command ∷ c.args.body.now) =
    (λ i. named i ++ digits i) ∙ sym (digits_behind c.args.first c.args.command c.args.body.now) in
    subst (λ (l : List ℕ). OnOk c.writeln.result (string_bytes c.writeln.new.self ≡ string_bytes c.args.text.now ++ l))
    (line_ended c.args.bus.now (string_bytes c.in_ok-named.named) (string_bytes c.in_ok-digits.digits) ∙ ap (λ (l : List ℕ). ended (c.args.bus.now ++ l)) all)
    c.writeln.ensures.bytes
