use Rattle.std.proofs.Common.{◌≡◌, ◌<◌, List, ℕ, length, take, arith, subst}
use Rattle.std.proofs.lemmas.List.{take_more_set, take_all}
use Rattle.mctp_net.specs.Cut.{AreWritten}
use Rattle.mctp_net.specs.Pieces.{pieces_of, count_of}
use Rattle.mctp_net.proofs.Cuts.{written_more}
use Rattle.mctp_net.proofs.splitting.write_each.Goals as goal

pub loop-number-preserved : goal.loop-number-preserved
loop-number-preserved c =
    let here : c.loop-number.number < length c.loop-number.frames = omega arith in
    written_more c.args.message.now c.loop-number.number c.piece.result (take c.loop-number.number c.loop-number.frames) _ c.write_packet_into.new.frame
    c.loop-number.invariant c.piece.ensures.value c.write_packet_into.ensures
    (take_more_set c.loop-number.frames c.loop-number.number c.write_packet_into.new.frame here)

pub returns : goal.returns
returns c =
    let m = c.args.message.now in
    let all : c.loop-number.number ≡ count_of m = omega arith in
    let whole : take c.loop-number.number c.loop-number.frames ≡ c.loop-number.frames = take_all c.loop-number.number c.loop-number.frames (omega arith) in
    subst (λ (n : ℕ). AreWritten (pieces_of m n) c.loop-number.frames) all
    (subst (λ (fs : List (List ℕ)). AreWritten (pieces_of m c.loop-number.number) fs) whole c.loop-number.invariant)
