-- The manager's requests and answers, in the words of the undo model.
use Rattle.std.specs.Prelude.{ℕ, List}
use Rattle.std.specs.Option.{option_map}
use Rattle.two_wire.specs.declared.Bus.{Bus}
use Rattle.record_base.specs.declared.key.Key.{Key}
use Rattle.record_base.specs.declared.op.Op.{Op}
use Rattle.record_base.specs.declared.message.Asked.{Asked}
use Rattle.bios_attr.specs.EntryParts.{joined}
use Rattle.record_kinds.specs.Limits.{key_of, inverse}
use Rattle.record_kinds.specs.Series.{Series, Reads, Sends, sends, first_of, next_after}
use Rattle.undo_plans.specs.Showing.{shown_by}
use Rattle.bmc_board.specs.Decode.{sent_by}
use Rattle.bmc_core.specs.Wires.{bus_of}
use Rattle.model_undo.specs.Words.{Words}
use Rattle.model_bus.specs.Addresses.{Addresses}

-- the request from the manager, by its address on the bus of the request
abbrev pub from_manager : (Bus → Addresses) → Asked → Asked
from_manager at asked = sent_by (at (bus_of asked)).manager asked

-- what the data of all replies of a series show together
abbrev pub shown_in : Series → List (List ℕ) → List ℕ
shown_in (Reads key) bodies = shown_by key bodies
shown_in (Sends asked) bodies = joined bodies

-- The words of a manager with these addresses, which knows no board's file. A Get and a Set are series of requests, most of them of one.
abbrev pub manager_words : (Bus → Addresses) → Words
manager_words at = record {
  Key = Key;
  Op = Op;
  key_of = key_of;
  Asked = Asked;
  bus_of = bus_of;
  Series = Series;
  getting = Reads;
  setting = sends;
  first = λ series. from_manager at (first_of series);
  next = λ series bodies. option_map (from_manager at) (next_after series bodies);
  joined = shown_in;
  inverse = inverse;
}
