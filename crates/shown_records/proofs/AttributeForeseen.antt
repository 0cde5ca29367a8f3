-- What is foreseen of the value of an attribute.
use Rattle.std.proofs.Common.{refl, ap}
use Rattle.bios_attr.specs.declared.bios_attribute.AttributeLimits.{AttributeLimits}
use Rattle.bios_attr.specs.BiosAttribute.{attribute_view, words, record_words}
use Rattle.bios_attr.specs.BiosAttributeLaws.{record_laws}
use Rattle.shown_records.specs.Settings.{after_attribute}
use Rattle.shown_records.proofs.Foreseen.{IsForeseen, whole_foreseen}

pub foreseen : (limits : AttributeLimits) → IsForeseen words (record_words limits) after_attribute
foreseen limits = whole_foreseen words (record_words limits) after_attribute (record_laws limits) (λ value. refl) (λ op old new live is_valid done. ap (attribute_view limits) done.is_new)
