-- The LAN parameters of a channel in a board file.
use Rattle.std.specs.Prelude.{ℕ, List, Option, find, ◌==◌}
use Rattle.record_base.specs.declared.lan.Lan.{Lan}

-- the LAN parameters of the channel of this number
abbrev pub lan_at : List Lan → ℕ → Option Lan
lan_at lans number = find (λ l. l.number.number == number) lans
