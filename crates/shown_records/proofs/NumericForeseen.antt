-- What is foreseen of a numeric effecter.
use Rattle.std.proofs.Common.{refl, ap}
use Rattle.effecter_recs.specs.declared.numeric.NumericLimits.{NumericLimits}
use Rattle.effecter_recs.specs.Numeric.{numeric_view, words, record_words}
use Rattle.effecter_recs.specs.NumericLaws.{record_laws}
use Rattle.shown_records.specs.Effecters.{after_numeric}
use Rattle.shown_records.proofs.Foreseen.{IsForeseen, whole_foreseen}

pub foreseen : (limits : NumericLimits) → IsForeseen words (record_words limits) after_numeric
foreseen limits = whole_foreseen words (record_words limits) after_numeric (record_laws limits) (λ value. refl) (λ op old new live is_valid done. ap (numeric_view limits) done.is_new)
