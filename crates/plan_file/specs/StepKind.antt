-- A kind of step, as one value.
use Rattle.std.specs.Prelude.{◌≡◌, ℕ, List}
use Rattle.toml.specs.Data.{Members}
use Rattle.record_base.specs.declared.op.Op.{Op}
use Rattle.text_fields.specs.declared.row.Row.{Row}

-- a step holds one operation at most
abbrev pub IsOne : (Members → Op → Type 0) → Type 0
IsOne Holds = (tree : Members) (a b : Op) → Holds tree a → Holds tree b → a ≡ b

-- what a step's `kind` calls it, the fields of its steps, and when a step holds an operation of the kind, of which it holds one at most
pub record StepKind : Type 1 where
  pub word : List ℕ
  pub rows : List Row
  pub Holds : Members → Op → Type 0
  pub only : IsOne Holds
