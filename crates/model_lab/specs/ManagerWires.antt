-- The manager's requests and the board's replies as bytes, as one value.
use Rattle.two_wire.specs.declared.Bus.{Bus}
use Rattle.model_bus.specs.Addresses.{Addresses}
use Rattle.model_undo.specs.Wires.{Wires}
use Rattle.model_lab.specs.ManagerWords.{manager_words}
use Rattle.bmc_core.specs.Wires.{bytes_of, asked_from, reply_to, answered_from}
use Rattle.model_lab.specs.WireLaws.{managers, read_back, reply_read}

-- how the manager's requests and the board's replies are bytes
abbrev pub wires : (at : Bus → Addresses) → Wires (manager_words at)
wires at = record {
  bytes_of = bytes_of;
  asked_from = asked_from at;
  reply_to = reply_to;
  answered_from = answered_from;
  same = λ number asked made. read_back at number asked (managers at asked made);
  same_reply = reply_read;
}
