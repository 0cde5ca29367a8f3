-- What is foreseen of the settings of the watchdog timer.
use Rattle.std.proofs.Common.{◌≡◌, ℕ, ◌+◌, ◌*◌, ◌/◌, ◌%◌, List, ◌∷◌, drop, slice_index, Bool, true, false, refl, ◌∙◌, ap, arith}
use Rattle.two_wire.specs.Codes.{invalid_data_field}
use Rattle.record_base.specs.declared.live.Live.{Live}
use Rattle.record_base.specs.declared.watchdog.SetWatchdog.{SetWatchdog}
use Rattle.watch_boot.specs.Watchdog.{kept_use, shown_use, settings_of, is_accepted, SetsWatchdog, watchdog_view, words, record_words}
use Rattle.watch_boot.specs.WatchdogLaws.{record_laws}
use Rattle.shown_records.specs.Settings.{after_watchdog}
use Rattle.shown_records.proofs.Foreseen.{IsForeseen, made_only, whole_foreseen}

new_is : (op : SetWatchdog) (old new : List ℕ) → SetsWatchdog op new → new ≡ settings_of op
new_is op old new done = made_only (is_accepted op) (settings_of op) invalid_data_field (SetsWatchdog op) new (record_laws.decides op old) (record_laws.determined op old) done

-- beside bit 6, which stays, a timer use byte is the one that a Set keeps
same_use : (byte old : ℕ) (running : Bool) → shown_use (kept_use byte) running ≡ kept_use byte + shown_use old running / 64 % 2 * 64
same_use byte old true = omega arith
same_use byte old false = omega arith

foresees : (op : SetWatchdog) (old new : List ℕ) (live : Live) → SetsWatchdog op new → watchdog_view new live ≡ after_watchdog op (watchdog_view old live)
foresees op old new live done =
    ap (λ (xs : List ℕ). watchdog_view xs live) (new_is op old new done)
    ∙ ap (λ (n : ℕ). n ∷ drop 1 (after_watchdog op (watchdog_view old live))) (same_use op.timer_use (slice_index old 0) live.running)

pub foreseen : IsForeseen words record_words after_watchdog
foreseen = whole_foreseen words record_words after_watchdog record_laws (λ value. refl) (λ op old new live is_valid done. foresees op old new live done)
