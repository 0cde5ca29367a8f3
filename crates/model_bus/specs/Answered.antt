-- What a reply says.
use Rattle.std.specs.Prelude.{ℕ, List}

-- a reply to a request: its completion code and its data
pub record Answered : Type 0 where
  pub code : ℕ
  pub body : List ℕ
