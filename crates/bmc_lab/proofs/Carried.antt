-- What frames carry, they carry in one way.
use Rattle.std.proofs.Common.{◌≡◌, ◌∙◌, ℕ, zero, suc, ◌+◌, ◌<◌, List, [], ◌∷◌, ◌++◌, take, length, get_or, refl, sym, ap, subst, arith}
use Rattle.std.specs.List.{AllZip, flat_map}
use Rattle.std.proofs.lemmas.Grind.{flat_map-append}
use Rattle.std.proofs.lemmas.List.{append-nil, take_more}
use Rattle.std.proofs.lemmas.Slice.Zip.{all_zipped_more}
use Rattle.mctp_net.specs.declared.packet.Packet.{Packet}
use Rattle.mctp_net.specs.Grammar.{IsPacket}
use Rattle.mctp_net.proofs.PacketLaws.{packet-one}
use Rattle.bmc_lab.specs.Reply.{AreCarried}

same_packets : (frames : List (List ℕ)) (ps qs : List Packet) → AllZip IsPacket ps frames → AllZip IsPacket qs frames → ps ≡ qs
same_packets [] [] [] a b = refl
same_packets (frame ∷ frames) (p ∷ ps) (q ∷ qs) a b = λ i. packet-one p q frame a.0 b.0 i ∷ same_packets frames ps qs a.1 b.1 i
same_packets [] (p ∷ ps) qs a b = absurd a
same_packets [] [] (q ∷ qs) a b = absurd b
same_packets (frame ∷ frames) [] qs a b = absurd a
same_packets (frame ∷ frames) (p ∷ ps) [] a b = absurd b

pub carried_once : (frames : List (List ℕ)) (one other : List ℕ) → AreCarried frames one → AreCarried frames other → one ≡ other
carried_once frames one other a b =
    a.2 ∙ ap (λ (ps : List Packet). flat_map (λ (packet : Packet). packet.payload) ps) (same_packets frames a.0 b.0 a.1 b.1) ∙ sym b.2

-- one packet more
pub carried_more : (frames : List (List ℕ)) (place : ℕ) (frame message grown : List ℕ) (packet : Packet) → place < length frames → frame ≡ get_or frames place frame
    → AreCarried (take place frames) message → IsPacket packet frame → grown ≡ message ++ packet.payload → AreCarried (take (place + 1) frames) grown
carried_more frames place frame message grown packet within is before reads more =
    let packets = before.0 ++ packet ∷ [] in
    let longer : take (place + 1) frames ≡ take place frames ++ frame ∷ [] =
    take_more frames place frame within ∙ ap (λ (f : List ℕ). take place frames ++ f ∷ []) (sym is) in
    let joined : message ++ packet.payload ≡ flat_map (λ (p : Packet). p.payload) packets =
    ap (λ (m : List ℕ). m ++ packet.payload) before.2
    ∙ ap (λ (m : List ℕ). flat_map (λ (p : Packet). p.payload) before.0 ++ m) (sym (append-nil packet.payload))
    ∙ sym (flat_map-append (λ (p : Packet). p.payload) before.0 (packet ∷ [])) in (
      packets,
      subst (λ (fs : List (List ℕ)). AllZip IsPacket packets fs) (sym longer) (all_zipped_more IsPacket before.0 (take place frames) packet frame before.1 reads),
      more ∙ joined,
    )

-- each frame is one of the packets
one_zips : (packets : List Packet) (frames : List (List ℕ)) (place : ℕ) (frame : List ℕ) → AllZip IsPacket packets frames → place < length frames → frame ≡ get_or frames place frame
    → (packet : Packet) × IsPacket packet frame
one_zips [] [] place frame zips within is = absurd (omega (arith, within))
one_zips [] (first ∷ frames) place frame zips within is = absurd zips
one_zips (packet ∷ packets) [] place frame zips within is = absurd zips
one_zips (packet ∷ packets) (first ∷ frames) zero frame zips within is = (packet, subst (λ (f : List ℕ). IsPacket packet f) (sym is) zips.0)
one_zips (packet ∷ packets) (first ∷ frames) (suc place) frame zips within is = one_zips packets frames place frame zips.1 (omega (arith, within)) is

-- frames of which one is no packet carry nothing
pub not_carried : (frames : List (List ℕ)) (place : ℕ) (frame : List ℕ) → place < length frames → frame ≡ get_or frames place frame → ((packet : Packet) → ¬ IsPacket packet frame)
    → (message : List ℕ) → ¬ AreCarried frames message
not_carried frames place frame within is none message carried =
    let found = one_zips carried.0 frames place frame carried.1 within is in
    none found.0 found.1
