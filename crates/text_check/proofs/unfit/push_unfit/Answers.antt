use Rattle.std.proofs.Common.{◌≡◌, ◌++◌, ◌∷◌, [], ◌∙◌, ℕ, List, ap, codes, string_bytes, subst, sym}
use Rattle.std.specs.Fmt.{decimal}
use Rattle.std.specs.Prelude.{OnOk}
use Rattle.std.proofs.lemmas.List.{append_assoc}
use Rattle.hex.specs.Hex.{encode_upper}
use Rattle.record_base.specs.Sdr.{sdr_id}
use Rattle.text_lines.specs.Cuts.{ended}
use Rattle.text_check.specs.Unfit.{key_of}
use Rattle.text_check.proofs.unfit.push_unfit.Goals as goal

-- a line of five parts, as it is written and as it is ended
line_ended : (a b c d e : List ℕ) → a ++ (b ++ (c ++ (d ++ (e ++ 10 ∷ [])))) ≡ ended (a ++ (b ++ (c ++ (d ++ e))))
line_ended a b c d e =
    sym (append_assoc a (b ++ (c ++ (d ++ e))) (10 ∷ []) ∙ ap (λ (l : List ℕ). a ++ l) (append_assoc b (c ++ (d ++ e)) (10 ∷ [])
    ∙ ap (λ (l : List ℕ). b ++ l) (append_assoc c (d ++ e) (10 ∷ []) ∙ ap (λ (l : List ℕ). c ++ l) (append_assoc d e (10 ∷ [])))))

pub returns : goal.returns
returns c =
    let digits : string_bytes c.in_ok-key.key ≡ encode_upper c.key_of.result.now = c.in_ok-key.ensures in
    let key : string_bytes c.in_ok-key.key ≡ encode_upper (key_of c.args.kept.now) = digits ∙ ap encode_upper c.key_of.ensures in
    let id : decimal c.number-id.result ≡ decimal (sdr_id c.args.kept.now) = ap decimal c.number-id.ensures in
    subst (λ (l : List ℕ). OnOk c.writeln.result (string_bytes c.writeln.new.self ≡ string_bytes c.args.text.now ++ l))
    (line_ended c.args.name.now (codes ": sdr record ") (decimal c.number-id.result) (codes ": no sensor has the key ") (string_bytes c.in_ok-key.key)
    ∙ (λ i. ended (c.args.name.now ++ (codes ": sdr record " ++ (id i ++ (codes ": no sensor has the key " ++ key i))))))
    c.writeln.ensures.bytes
