use Rattle.std.proofs.lemmas.Fmt.{decimal_injective}
use Rattle.text_lines.proofs.laws.one_plain_number.Goals as goal

pub returns : goal.returns
returns c = decimal_injective
