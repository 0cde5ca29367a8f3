use Rattle.std.proofs.Common.{◌≡◌, [], ◌∷◌, Ok, ◌∙◌}
use Rattle.hex.specs.Hex.{decode_sized}
use Rattle.hex.proofs.HexLemmas.{decode_of-ok, decode_sized-twice}
use Rattle.text_lines.proofs.spelt.byte.Goals as goal

pub returns-in_default-clause-none : goal.returns-in_default-clause-none
returns-in_default-clause-none c byte h =
    let word = c.args.word.now in
    let long = (decode_of-ok word (byte ∷ []) h).2 in
    let sized : decode_sized word 1 ≡ Ok (byte ∷ []) = decode_sized-twice word 1 long ∙ h in
    c.in_default.not-Ok (byte ∷ []) (c.from_hex.ensures ∙ sized)
