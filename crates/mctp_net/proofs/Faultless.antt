-- Bytes without a fault are a packet.
use Rattle.std.proofs.Common.{◌≡◌, ℕ, zero, suc, ◌-◌, ◌/◌, ◌%◌, ◌==◌, ◌<◌, not, List, [], ◌∷◌, length, take, drop, get_or, refl, sym, subst, arith, find, Option, Some, None, inl, inr, ◌⊎◌}
use Rattle.std.specs.Prelude.{All, bit_and}
use Rattle.std.proofs.lemmas.Bool.Decides.{nat_tests}
use Rattle.std.proofs.lemmas.Nat.{and_le_r}
use Rattle.two_wire.specs.Circles.{tags}
use Rattle.mctp_net.specs.declared.fault.PacketFault.{PacketFault}
use Rattle.mctp_net.specs.declared.packet.Packet.{Packet}
use Rattle.mctp_net.specs.Grammar.{has_fault, faults, HasFault, IsPacket}
use Rattle.mctp_net.proofs.Packets.{packet_is, flags_is}

-- each byte is below 256, and behind the last there is 0
all-small : (bytes : List ℕ) → All (λ b. b < 256) bytes → (i : ℕ) → get_or bytes i 0 < 256
all-small [] small i = omega arith
all-small (b ∷ bytes) small zero = small 0 0 (omega arith)
all-small (b ∷ bytes) small (suc i) = all-small bytes (λ k d low. small (suc k) d (omega arith)) i

-- the packet that faultless bytes are
abbrev packet_at : List ℕ → Packet
packet_at bytes = record {
  envelope = record {
    destination = get_or bytes 0 0;
    source = get_or bytes 3 0 - 1;
    destination_eid = get_or bytes 5 0;
    source_eid = get_or bytes 6 0;
    tag_owner = not (bit_and (get_or bytes 7 0) 8 == 0);
    tag = get_or bytes 7 0 % tags;
  };
  start = not (bit_and (get_or bytes 7 0) 128 == 0);
  end = not (bit_and (get_or bytes 7 0) 64 == 0);
  sequence = bit_and (get_or bytes 7 0 / 16) 3;
  payload = take (length bytes - 1 - 8) (drop 8 bytes);
}

-- bytes without a fault are a packet
faultless-packet : (bytes : List ℕ) → find (has_fault bytes) faults ≡ None → ((i : ℕ) → get_or bytes i 0 < 256) → IsPacket (packet_at bytes) bytes
faultless-packet bytes none small =
    let even : get_or bytes 0 0 % 2 ≡ 0 = grind (arith, nat_tests) in
    let odd : get_or bytes 3 0 % 2 ≡ 1 = grind (arith, nat_tests) in
    let kind : get_or bytes 1 0 ≡ 15 = grind (arith, nat_tests) in
    packet_is bytes (packet_at bytes) (grind (arith, nat_tests)) (grind (arith, nat_tests))
    (record {
      destination = (small 0, even);
      source = (omega (arith, small 3), omega arith);
      destination_eid = small 5;
      source_eid = small 6;
      tag = omega arith;
    })
    (omega (arith, and_le_r (get_or bytes 7 0 / 16) 3)) (grind (arith, nat_tests))
    refl (sym kind) (grind (arith, nat_tests)) (omega arith)
    (grind (arith, nat_tests)) (small 4) refl refl
    (flags_is (get_or bytes 7 0) (small 7)) refl

-- and so are a packet's fields that are read from them
pub fields-packet : (bytes : List ℕ) (p : Packet) → find (has_fault bytes) faults ≡ None → ((i : ℕ) → get_or bytes i 0 < 256)
    → p.envelope.destination ≡ get_or bytes 0 0 → p.envelope.source ≡ get_or bytes 3 0 - 1
    → p.envelope.destination_eid ≡ get_or bytes 5 0 → p.envelope.source_eid ≡ get_or bytes 6 0
    → p.envelope.tag_owner ≡ not (bit_and (get_or bytes 7 0) 8 == 0) → p.envelope.tag ≡ get_or bytes 7 0 % tags
    → p.start ≡ not (bit_and (get_or bytes 7 0) 128 == 0) → p.end ≡ not (bit_and (get_or bytes 7 0) 64 == 0)
    → p.sequence ≡ bit_and (get_or bytes 7 0 / 16) 3 → p.payload ≡ take (length bytes - 1 - 8) (drop 8 bytes) → IsPacket p bytes
fields-packet bytes p none small to from to_eid from_eid owner tag start end sequence payload =
    let same : p ≡ packet_at bytes =
    λ i. record {
      envelope = record {
        destination = to i;
        source = from i;
        destination_eid = to_eid i;
        source_eid = from_eid i;
        tag_owner = owner i;
        tag = tag i;
      };
      start = start i;
      end = end i;
      sequence = sequence i;
      payload = payload i;
    } in
    subst (λ (q : Packet). IsPacket q bytes) (sym same) (faultless-packet bytes none small)

-- bytes have a fault or are a packet
pub fault-or-packet : (bytes : List ℕ) → All (λ b. b < 256) bytes → HasFault bytes ⊎ ((p : Packet) × IsPacket p bytes)
fault-or-packet bytes small = by_fault (find (has_fault bytes) faults) refl
  where
    by_fault : (first : Option PacketFault) → find (has_fault bytes) faults ≡ first → HasFault bytes ⊎ ((p : Packet) × IsPacket p bytes)
    by_fault (Some fault) is = inl (fault, is)
    by_fault None is = inr (packet_at bytes, faultless-packet bytes is (all-small bytes small))
