-- Reservations (IPMI 2.0): a number stands for its requester's hold on a list until the list is cleared or
-- another number is given. 0000h is no reservation.
use Rattle.std.specs.Prelude.{ℕ, ◌+◌, ◌==◌, ◌&&◌, Bool, not, if◌then◌else◌}
use Rattle.sel_log.specs.declared.reservations.Reservations.{Reservations}

-- before the first
abbrev pub no_reservation : Reservations
no_reservation = record { present = 0; last = 0 }

-- the number behind this one, from 0001h on, past 0000h
abbrev pub next_number : ℕ → ℕ
next_number last = if last == 0xFFFF then 0x0001 else last + 1

-- whether the number is the present reservation
abbrev pub is_present : Reservations → ℕ → Bool
is_present reservations number = not (number == 0) && (number == reservations.present)
