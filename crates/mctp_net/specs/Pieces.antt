-- The packets of a message, one by one.
use Rattle.std.specs.Prelude.{ℕ, ◌+◌, ◌*◌, ◌/◌, ◌==◌, List, nat_le, length, map, take, drop}
use Rattle.std.specs.List.{range_with_len}
use Rattle.mctp_net.specs.declared.packet.Packet.{Packet}
use Rattle.mctp_net.specs.declared.message.Message.{Message}
use Rattle.mctp_net.specs.Sizes.{unit_size}

-- the message's packet of this number
abbrev pub piece_of : Message → ℕ → Packet
piece_of message number = record {
  envelope = message.envelope;
  start = number == 0;
  end = nat_le (length message.body) (unit_size * number + unit_size);
  sequence = number;
  payload = take unit_size (drop (unit_size * number) message.body);
}

-- how many packets a message has
abbrev pub count_of : Message → ℕ
count_of message = (length message.body + 63) / 64

-- its first packets, so many
abbrev pub pieces_of : Message → ℕ → List Packet
pieces_of message count = map (piece_of message) (range_with_len 0 count)
