-- The 802.1q VLAN ID of a LAN channel (IPMI 2.0, LAN configuration parameter 20): the low byte, and a byte with bit 7, which enables it, and the
-- high bits in bits 3:0.
use Rattle.std.specs.Prelude.{ℕ, ◌+◌, ◌*◌, ◌/◌, ◌%◌}

-- the second byte without its ignored bits, 6:4
abbrev pub vlan_high : ℕ → ℕ
vlan_high byte = byte / 128 * 128 + byte % 16
