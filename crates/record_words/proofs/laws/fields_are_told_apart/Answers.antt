use Rattle.std.proofs.lemmas.Fmt.{decimal_injective}
use Rattle.record_words.specs.Quotes.{trimmed}
use Rattle.record_words.proofs.Apart.{bits_apart, names_apart, quoted_apart, raw_apart, trimmed_bytes}
use Rattle.record_words.proofs.laws.fields_are_told_apart.Goals as goal

pub returns-clause-numbers : goal.returns-clause-numbers
returns-clause-numbers c = decimal_injective

pub returns-clause-bytes : goal.returns-clause-bytes
returns-clause-bytes c = raw_apart

pub returns-clause-bits : goal.returns-clause-bits
returns-clause-bits c = bits_apart

pub returns-clause-names : goal.returns-clause-names
returns-clause-names c one other p q long e =
    names_apart one other long (quoted_apart (trimmed one) (trimmed other) (trimmed_bytes one p) (trimmed_bytes other q) e)

pub returns-clause-texts : goal.returns-clause-texts
returns-clause-texts c = quoted_apart
