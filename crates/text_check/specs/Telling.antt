-- Lines that are added to a text.
use Rattle.std.specs.Prelude.{◌≡◌, ℕ, List, ◌++◌}
use Rattle.std.specs.List.{flat_map}
use Rattle.text_lines.specs.Cuts.{ended}

-- the text is what it was, and behind that lines such as these are
pub record Tells (Are : List (List ℕ) → Type 0) (old new : List ℕ) : Type 0 where
  pub lines : List (List ℕ)
  pub are : Are lines
  pub text : new ≡ old ++ flat_map ended lines
