-- What sets the global enables to what their Get shows.
use Rattle.std.proofs.Common.{length, ◌==◌, Some, None, if◌then◌else◌, refl, ap}
use Rattle.watch_boot.specs.GlobalEnables.{undo_enables, words, record_words}
use Rattle.watch_boot.specs.GlobalEnablesLaws.{record_laws}
use Rattle.shown_records.proofs.SetBack.{IsSetBack, any_values, set_back_by}

pub set_back : IsSetBack words record_words (λ alone shown. record { byte = 0 }) any_values
set_back =
    set_back_by words record_words record_laws _ (λ alone reply. length reply == 1) (λ alone reply. undo_enables reply) (λ alone reply. refl)
    (λ alone reply holds. ap (λ b. if b then Some (undo_enables reply) else None) holds) (λ alone reply one other made holds done. done)
