-- The values that records begin with.
use Rattle.std.specs.Prelude.{ℕ, List}
use Rattle.record_base.specs.declared.start_value.StartBytes.{StartBytes}
use Rattle.record_base.specs.declared.start_value.StartBytes.TheVariants.{Few, Many}

-- the bytes, wherever they lie
abbrev pub bytes_in : StartBytes → List ℕ
bytes_in (Few bytes) = bytes
bytes_in (Many bytes) = bytes.items
