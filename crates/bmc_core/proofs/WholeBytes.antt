-- A message that becomes whole has the same bytes in the model and at the assembler.
use Rattle.std.proofs.Common.{◌≡◌, ℕ, true, cond, List, [], ◌∷◌, ◌++◌, Option, None, refl, sym, ◌∙◌, ap}
use Rattle.std.proofs.lemmas.List.{map-append}
use Rattle.mctp_net.specs.declared.packet.Packet.{Packet}
use Rattle.mctp_net.specs.declared.taken.DropCause.{DropCause}
use Rattle.mctp_net.specs.Cut.{Piece, piece, carried}
use Rattle.mctp_net.specs.Assembly.{Assemblies, taken_under, joined_to, drop_cause, after, after_where, ended, kept_with, message_of}
use Rattle.mctp_net.proofs.Wholes.{ended-body}
use Rattle.model_bus.specs.Packet.{Packet as ModelPacket}
use Rattle.model_bus.specs.Assembly.{SentPacket, waiting, message_of as model_message_of}
use Rattle.bmc_core.specs.Seen.{seen, AreSeen}
use Rattle.bmc_core.proofs.PacketSteps.{joins-same}

-- packets that are seen carry the same bytes
carried-is : (ss : List SentPacket) (ps : List Piece) → AreSeen ss ps → model_message_of ss ≡ carried ps
carried-is [] [] h = refl
carried-is [] (p ∷ ps) h = absurd cc
carried-is (s ∷ ss) [] h = absurd cc
carried-is (s ∷ ss) (p ∷ ps) h =
    let head : s.packet ≡ seen p = cc in
    let rest : AreSeen ss ps = cc in
    ap (λ (q : ModelPacket). q.payload ++ model_message_of ss) head ∙ ap (λ (x : List ℕ). p.payload ++ x) (carried-is ss ps rest)

pub whole-bytes : (own : ℕ) (a : Assemblies) (p : Packet) (s : SentPacket) (taken : List SentPacket) → s.packet ≡ seen (piece p) → AreSeen taken (taken_under p a)
    → drop_cause own a p ≡ None → p.end ≡ true → model_message_of (waiting taken s ++ s ∷ []) ≡ (message_of (after own a p) p).body
whole-bytes own a p s taken is same none ends =
    let all : AreSeen (waiting taken s ++ s ∷ []) (joined_to p a ++ piece p ∷ []) =
    map-append (λ (t : SentPacket). t.packet) (waiting taken s) (s ∷ [])
    ∙ (λ i. joins-same own a p s taken is same i ++ is i ∷ [])
    ∙ sym (map-append seen (joined_to p a) (piece p ∷ [])) in
    let kept : after own a p ≡ ended p a =
    ap (λ (c : Option DropCause). after_where c p a) none ∙ ap (λ t. cond t (ended p a) (kept_with p a)) ends in
    carried-is (waiting taken s ++ s ∷ []) (joined_to p a ++ piece p ∷ []) all
    ∙ sym (ended-body a p)
    ∙ sym (ap (λ (b : Assemblies). (message_of b p).body) kept)
