-- The line that says how many records of a board have another value than they began with.
use Rattle.std.specs.Prelude.{ℕ, zero, suc, List, ◌++◌, codes}
use Rattle.std.specs.Fmt.{decimal}

-- whether records are changed, and how many
abbrev pub records_line : ℕ → List ℕ
records_line zero = codes "records same"
records_line (suc n) = codes "records changed" ++ codes " " ++ decimal (suc n)
