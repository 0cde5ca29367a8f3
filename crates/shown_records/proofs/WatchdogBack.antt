-- What sets the settings of the watchdog timer to what their Get shows.
use Rattle.std.proofs.Common.{Some, None, if◌then◌else◌, refl, ap}
use Rattle.watch_boot.specs.Watchdog.{is_stopped, undo_watchdog, words, record_words}
use Rattle.watch_boot.specs.WatchdogLaws.{record_laws}
use Rattle.shown_records.proofs.SetBack.{IsSetBack, any_values, set_back_by}

pub set_back : IsSetBack words record_words (λ alone shown. record { timer_use = 0; actions = 0; pre_timeout = 0; flags_to_clear = 0; initial = 0 }) any_values
set_back =
    set_back_by words record_words record_laws _ (λ alone reply. is_stopped reply) (λ alone reply. undo_watchdog reply) (λ alone reply. refl)
    (λ alone reply holds. ap (λ b. if b then Some (undo_watchdog reply) else None) holds) (λ alone reply one other made holds done. done)
