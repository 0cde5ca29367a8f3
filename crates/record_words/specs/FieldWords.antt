-- How fields are named, and what is said of each.
use Rattle.std.specs.Prelude.{ℕ, List, [], ◌++◌, codes}
use Rattle.std.specs.Fmt.{decimal}
use Rattle.record_words.specs.declared.field.Field.{Field}
use Rattle.record_words.specs.declared.field.Label.{Label}
use Rattle.record_words.specs.declared.field.Label.TheVariants as label
use Rattle.record_words.specs.declared.shown.Shown.{Shown}
use Rattle.record_words.specs.declared.term.Term.{Term}
use Rattle.record_words.specs.Terms.{term_words}

-- the field of a term, that which is the whole record, and that of a number
abbrev pub field : Term → Shown → Field
field term shown = record { label = label.Of term; shown = shown }

abbrev pub whole : Shown → Field
whole shown = record { label = label.Whole; shown = shown }

abbrev pub numbered : ℕ → Shown → Field
numbered number shown = record { label = label.Field number; shown = shown }

-- the name of a field
abbrev pub label_words : Label → List ℕ
label_words label.Whole = []
label_words (label.Of term) = term_words term
label_words (label.Field number) = codes "field " ++ decimal number
