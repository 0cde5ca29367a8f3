-- What is foreseen of the global enables.
use Rattle.std.proofs.Common.{refl}
use Rattle.watch_boot.specs.GlobalEnables.{words, record_words}
use Rattle.watch_boot.specs.GlobalEnablesLaws.{record_laws}
use Rattle.shown_records.specs.Settings.{after_enables}
use Rattle.shown_records.proofs.Foreseen.{IsForeseen, whole_foreseen}

pub foreseen : IsForeseen words record_words after_enables
foreseen = whole_foreseen words record_words after_enables record_laws (λ value. refl) (λ op old new live is_valid done. done.all)
