-- Lines of printable ASCII: no control character, no line feed, and no byte above 126.
use Rattle.std.specs.Prelude.{◌≡◌, ℕ, Bool, true, ◌&&◌, nat_le, List}
use Rattle.std.specs.List.{list_all}

-- printable ASCII: from a space to `~`
abbrev pub is_printable : ℕ → Bool
is_printable byte = nat_le 32 byte && nat_le byte 126

abbrev pub are_printable : List ℕ → Bool
are_printable bytes = list_all is_printable bytes

-- each byte is
abbrev pub IsLine : List ℕ → Type 0
IsLine bytes = are_printable bytes ≡ true
