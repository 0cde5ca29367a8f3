-- The meaning of the data of a kind's commands. Any data have one.
use Rattle.std.specs.Prelude.{ℕ, List}
use Rattle.record_base.specs.declared.key.Key.{Key}
use Rattle.record_base.specs.declared.op.Op.{Op}

-- the record that the data of a Get name, and the operation that the data of a Set name
pub record Reader : Type 0 where
  pub key_in : List ℕ → Key
  pub op_in : List ℕ → Op
