-- How requests and replies are bytes on the two buses. The bytes hold all but addresses and check bytes, the number too.
use Rattle.std.specs.Prelude.{◌≡◌, ℕ, ◌%◌, List}
use Rattle.two_wire.specs.Circles.{sequence_numbers, instances}
use Rattle.two_wire.specs.declared.Bus.{Bus}
use Rattle.two_wire.specs.declared.Bus.TheVariants.{Ipmb, Smbus}
use Rattle.model_bus.specs.Answered.{Answered}
pub use Rattle.model_undo.specs.Words.{IsSeries, IsOneOf, IsMade}
use Rattle.model_undo.specs.Words.{Words}

-- the number of a count: a sequence number on IPMB, an instance on SMBus
abbrev pub number_of : Bus → ℕ → ℕ
number_of Ipmb count = count % sequence_numbers
number_of Smbus count = count % instances

-- how requests and replies are written, and what is read of them
pub record Wires (words : Words) : Type 0 where
  -- the bytes of a request under a number
  pub bytes_of : ℕ → words.Asked → List ℕ
  -- what bytes ask on a bus
  pub asked_from : Bus → List ℕ → words.Asked
  -- the bytes of the reply that gives this answer to a request of these bytes
  pub reply_to : Bus → List ℕ → Answered → List ℕ
  -- the answer that the bytes of a reply give
  pub answered_from : Bus → List ℕ → Answered
  -- what was written is read, of the requests that a manager makes
  pub same : (number : ℕ) (asked : words.Asked) → IsMade words asked
      → asked_from (words.bus_of asked) (bytes_of number asked) ≡ asked
  pub same_reply : (bus : Bus) (bytes : List ℕ) (answered : Answered) → answered_from bus (reply_to bus bytes answered) ≡ answered
