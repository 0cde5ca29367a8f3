-- The frames of a message are those of its packets, and are read as them.
use Rattle.std.proofs.Common.{◌≡◌, ℕ, ◌<◌, ◌≤◌, List, [], ◌∷◌, length, map, refl, ◌∙◌, ap, subst, lit<}
use Rattle.std.specs.List.{AllZip}
use Rattle.two_wire.specs.declared.Bus.TheVariants.{Smbus}
use Rattle.mctp_net.specs.declared.packet.Packet.{Packet}
use Rattle.mctp_net.specs.declared.message.Message.{Message}
use Rattle.mctp_net.specs.Cut.{IsCutOf, AreWritten}
use Rattle.mctp_net.proofs.OneCut.{cut-one}
use Rattle.bmc_core.specs.Values.{Part, written, parts_of, IsFrameOn}
use Rattle.bmc_core.proofs.Parts.{parts_are_cuts}

-- each frame is its packet's
packets_written : (ps : List Packet) (frames : List (List ℕ)) → AreWritten ps frames → frames ≡ map written (map (λ p. Part p) ps)
packets_written [] [] all = refl
packets_written [] (frame ∷ frames) all = absurd all
packets_written (p ∷ ps) [] all = absurd all
packets_written (p ∷ ps) (frame ∷ frames) all = λ i. all.0.spelled i ∷ packets_written ps frames all.1 i

-- so the frames of any cut are those of the message's parts
pub message_written : (m : Message) (ps : List Packet) (frames : List (List ℕ)) → 0 < length m.body → length m.body ≤ 256 → IsCutOf m ps → AreWritten ps frames
    → frames ≡ map written (map (λ p. Part p) (parts_of m))
message_written m ps frames some fits cut all =
    packets_written ps frames all ∙ ap (λ (qs : List Packet). map written (map (λ p. Part p) qs)) (cut-one m ps (parts_of m) cut (parts_are_cuts.cut m some fits))

-- each frame is read as its packet
packets_read : (ps : List Packet) (frames : List (List ℕ)) → AreWritten ps frames → AllZip (IsFrameOn Smbus) (map (λ p. Part p) ps) frames
packets_read [] [] all = tt
packets_read [] (frame ∷ frames) all = absurd all
packets_read (p ∷ ps) [] all = absurd all
packets_read (p ∷ ps) (frame ∷ frames) all = ((0, lit< tt, all.0), packets_read ps frames all.1)

-- so the frames of any cut are read as the message's parts
pub message_read : (m : Message) (ps : List Packet) (frames : List (List ℕ)) → 0 < length m.body → length m.body ≤ 256 → IsCutOf m ps → AreWritten ps frames
    → AllZip (IsFrameOn Smbus) (map (λ p. Part p) (parts_of m)) frames
message_read m ps frames some fits cut all =
    subst (λ (qs : List Packet). AllZip (IsFrameOn Smbus) (map (λ p. Part p) qs) frames) (cut-one m ps (parts_of m) cut (parts_are_cuts.cut m some fits)) (packets_read ps frames all)
