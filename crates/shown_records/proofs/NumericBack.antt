-- What sets a numeric effecter to what its Get shows.
use Rattle.std.proofs.Common.{Some, None, if◌then◌else◌, refl, ap}
use Rattle.effecter_recs.specs.declared.numeric.NumericLimits.{NumericLimits}
use Rattle.effecter_recs.specs.Numeric.{is_enabled_reply, undo_numeric, words, record_words}
use Rattle.effecter_recs.specs.NumericLaws.{record_laws}
use Rattle.shown_records.specs.Probes.{probe_numeric}
use Rattle.shown_records.proofs.SetBack.{IsSetBack, any_values, set_back_by}

pub set_back : (limits : NumericLimits) → IsSetBack words (record_words limits) (λ effecter shown. probe_numeric effecter) any_values
set_back limits =
    set_back_by words (record_words limits) (record_laws limits) _ (λ effecter reply. is_enabled_reply reply) (λ effecter reply. undo_numeric (probe_numeric effecter) reply) (λ effecter reply. refl)
    (λ effecter reply holds. ap (λ b. if b then Some (undo_numeric (probe_numeric effecter) reply) else None) holds) (λ effecter reply one other made holds done. done)
