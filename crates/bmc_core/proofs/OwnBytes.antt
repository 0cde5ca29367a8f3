-- What a port sends is read as itself, from its own bytes.
use Rattle.std.proofs.Common.{◌≡◌, ℕ, ◌<◌, ◌≤◌, List, [], ◌∷◌, length, map, refl, subst, lit<}
use Rattle.std.proofs.lemmas.List.Elements.{All-nil, All-cons}
use Rattle.two_wire.specs.declared.Bus.{Bus}
use Rattle.two_wire.specs.declared.Bus.TheVariants.{Ipmb, Smbus}
use Rattle.ipmb_frame.specs.declared.message.Response.{Response}
use Rattle.ipmb_frame.specs.Grammar.{IsResponse}
use Rattle.mctp_net.specs.declared.packet.Packet.{Packet}
use Rattle.mctp_net.specs.declared.message.Message.{Message}
use Rattle.mctp_net.specs.Cut.{IsCutOf, AreWritten}
use Rattle.mctp_net.proofs.OneCut.{cut-one}
use Rattle.bmc_core.specs.Values.{Tells, Part, written, parts_of, IsFrameOn}
use Rattle.bmc_core.proofs.Parts.{parts_are_cuts}
use Rattle.bmc_core.specs.Outs.{ReadBack}

-- where nothing is sent
pub none_read : (on : Bus) → ReadBack on []
none_read on = All-nil (λ v. IsFrameOn on v (written v))

-- a response that some bytes are is read from its own
pub is_own : (r : Response) (bytes : List ℕ) → IsResponse r bytes → IsResponse r (written (Tells r))
is_own r bytes is = record { header = is.header; fits = is.fits; spelled = refl }

-- so the one that it equals is
pub response_read : (r s : Response) (bytes : List ℕ) → IsResponse r bytes → r ≡ s → ReadBack Ipmb (Tells s ∷ [])
response_read r s bytes is same =
    subst (λ (t : Response). ReadBack Ipmb (Tells t ∷ [])) same (All-cons (λ v. IsFrameOn Ipmb v (written v)) (Tells r) [] (is_own r bytes is) (none_read Ipmb))

-- each packet that some frame is
packets_read : (ps : List Packet) (frames : List (List ℕ)) → AreWritten ps frames → ReadBack Smbus (map (λ p. Part p) ps)
packets_read [] [] all = none_read Smbus
packets_read [] (frame ∷ frames) all = absurd all
packets_read (p ∷ ps) [] all = absurd all
packets_read (p ∷ ps) (frame ∷ frames) all =
    All-cons (λ v. IsFrameOn Smbus v (written v)) (Part p) (map (λ p. Part p) ps)
    (0, lit< tt, record { envelope = all.0.envelope; sequence = all.0.sequence; some = all.0.some; fits = all.0.fits; spelled = refl }) (packets_read ps frames all.1)

-- so the message's parts, where the frames are those of any cut
pub message_read : (m : Message) (ps : List Packet) (frames : List (List ℕ)) → 0 < length m.body → length m.body ≤ 256 → IsCutOf m ps → AreWritten ps frames
    → ReadBack Smbus (map (λ p. Part p) (parts_of m))
message_read m ps frames some fits cut all =
    subst (λ (qs : List Packet). ReadBack Smbus (map (λ p. Part p) qs)) (cut-one m ps (parts_of m) cut (parts_are_cuts.cut m some fits)) (packets_read ps frames all)
