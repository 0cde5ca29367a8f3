-- A message is cut here as in the model of a bus.
use Rattle.std.proofs.Common.{◌≡◌, ℕ, zero, suc, Bool, true, false, cond, List, [], ◌∷◌, length, map, take, drop, refl, ap}
use Rattle.std.specs.Prelude.{nat_le, ◌==◌}
use Rattle.mctp_net.specs.declared.packet.Envelope.{Envelope}
use Rattle.mctp_net.specs.declared.packet.Packet.{Packet}
use Rattle.model_bus.specs.Packet as bus
use Rattle.model_headline.specs.Frames.{packets_from, packets_of}

abbrev packet : Envelope → ℕ → Bool → List ℕ → Packet
packet e place end bytes = record { envelope = e; start = place == 0; end = end; sequence = place; payload = bytes }

-- a packet of the model, in the envelope
abbrev pub enveloped : Envelope → bus.Packet → Packet
enveloped e q = record { envelope = e; start = q.first; end = q.last; sequence = q.sequence; payload = q.payload }

from_alike : (most place : ℕ) (e : Envelope) (bytes : List ℕ) → map (enveloped e) (bus.packets_from most place bytes) ≡ packets_from most place e bytes
from_alike zero place e bytes = refl
from_alike (suc most) place e bytes = at (nat_le (length bytes) 64) (from_alike most (suc place) e (drop 64 bytes))
  where
    at : (b : Bool) → map (enveloped e) (bus.packets_from most (suc place) (drop 64 bytes)) ≡ packets_from most (suc place) e (drop 64 bytes)
        → map (enveloped e) (cond b (record { first = place == 0; last = true; sequence = place; payload = bytes } ∷ []) (record { first = place == 0; last = false; sequence = place; payload = take 64 bytes } ∷ bus.packets_from most (suc place) (drop 64 bytes)))
        ≡ cond b (packet e place true bytes ∷ []) (packet e place false (take 64 bytes) ∷ packets_from most (suc place) e (drop 64 bytes))
    at true rest = refl
    at false rest = ap (λ (ps : List Packet). packet e place false (take 64 bytes) ∷ ps) rest

pub cuts_alike : (e : Envelope) (bytes : List ℕ) → map (enveloped e) (bus.packets_of bytes) ≡ packets_of e bytes
cuts_alike e bytes = at (nat_le (length bytes) 256)
  where
    at : (b : Bool) → map (enveloped e) (let none : List bus.Packet = [] in cond b (bus.packets_from 4 0 bytes) none) ≡ (let none : List Packet = [] in cond b (packets_from 4 0 e bytes) none)
    at true = from_alike 4 0 e bytes
    at false = refl
