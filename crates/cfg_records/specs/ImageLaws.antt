-- Bytes have at most one proof that they are an image.
use Rattle.std.proofs.Props.{props}
use Rattle.std.specs.Prelude.{ℕ, List}
use Rattle.cfg_records.specs.Image.{Offsets, IsImage}

pub IsImage-prop : (bytes : List ℕ) (offsets : Offsets) → IsProp (IsImage bytes offsets)
IsImage-prop bytes offsets = hlevel props
