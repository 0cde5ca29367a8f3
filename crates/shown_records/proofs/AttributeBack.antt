-- What sets an attribute to what its Get shows.
use Rattle.std.proofs.Common.{Some, None, if◌then◌else◌, refl, ap}
use Rattle.bios_attr.specs.declared.bios_attribute.AttributeLimits.{AttributeLimits}
use Rattle.bios_attr.specs.BiosAttribute.{is_attribute_reply, undo_attribute, words, record_words}
use Rattle.bios_attr.specs.BiosAttributeLaws.{record_laws}
use Rattle.shown_records.specs.Probes.{probe_attribute}
use Rattle.shown_records.proofs.SetBack.{IsSetBack, any_values, set_back_by}

pub set_back : (limits : AttributeLimits) → IsSetBack words (record_words limits) (λ handle shown. probe_attribute handle) any_values
set_back limits =
    set_back_by words (record_words limits) (record_laws limits) _ (λ handle reply. is_attribute_reply reply) (λ handle reply. undo_attribute reply) (λ handle reply. refl)
    (λ handle reply holds. ap (λ b. if b then Some (undo_attribute reply) else None) holds) (λ handle reply one other made holds done. done)
