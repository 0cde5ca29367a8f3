-- The bytes are those of IPMB and of PLDM.
use Rattle.std.specs.Prelude.{ℕ}
use Rattle.two_wire.specs.declared.Bus.{Bus}
use Rattle.record_base.specs.declared.message.Asked.{Asked}
use Rattle.model_bus.specs.Bytes.{IsRequestOn, IsReplyOn}
use Rattle.model_bus.specs.Answered.{Answered}
use Rattle.model_bus.specs.Addresses.{Addresses}
use Rattle.model_undo.specs.Wires.{number_of, IsMade}
use Rattle.bmc_core.specs.Wires.{bus_of, bytes_of, reply_to}
use Rattle.model_lab.specs.ManagerWords.{manager_words}

-- the bytes of the manager's requests are requests under their numbers, and the bytes of a reply to a request are a reply to it, with the answer's code
pub record AreSpelled (at : Bus → Addresses) : Type 0 where
  pub requests : (count : ℕ) (asked : Asked) → IsMade (manager_words at) asked
      → let number = number_of (bus_of asked) count in IsRequestOn (bus_of asked) number (bytes_of number asked)
  pub replies : (count : ℕ) (asked : Asked) (answered : Answered) → IsMade (manager_words at) asked
      → let bytes = bytes_of (number_of (bus_of asked) count) asked in
      IsReplyOn (bus_of asked) answered.code bytes (reply_to (bus_of asked) bytes answered)
