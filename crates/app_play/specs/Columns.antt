-- Columns of a fixed width.
use Rattle.std.specs.Prelude.{ℕ, ◌-◌, nat_le, List, ◌++◌, length, replicate, if◌then◌else◌}

-- a text that is longer than this is as many stars
abbrev pub at_most : ℕ → List ℕ → List ℕ
at_most width text = if nat_le (length text) width then text else replicate width 42

-- a text in a column of this width, with spaces behind it
abbrev pub in_column : ℕ → List ℕ → List ℕ
in_column width text = if nat_le (length text) width then text ++ replicate (width - length text) 32 else replicate width 42
