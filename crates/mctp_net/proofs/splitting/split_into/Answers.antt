use Rattle.std.proofs.Common.{◌≡◌, ◌<◌, ◌≤◌, List, ℕ, length, arith, rules, refl, ap, sym, ◌∙◌, subst}
use Rattle.mctp_net.specs.Cut.{AreWritten}
use Rattle.mctp_net.specs.Pieces.{pieces_of, count_of}
use Rattle.mctp_net.proofs.Cuts.{is_cut, refilled}
use Rattle.mctp_net.proofs.splitting.split_into.Goals as goal

pub returns : goal.returns
returns c =
    let m = c.args.message.now in
    let some : 0 < length m.body = search rules in
    let fits : length m.body ≤ 256 = search rules in
    let count : c.div_ceil-count.result ≡ count_of m = omega (arith, ap length c.as_slice.ensures.value) in
    let so_many : length c.write_each.new.frames ≡ length c.keep.new.frames.items = c.write_each.auto.frames ∙ ap length c.as_mut_slice.ensures.value in
    (pieces_of m (count_of m), is_cut m (count_of m) refl some fits, subst (λ (fs : List (List ℕ)). AreWritten (pieces_of m (count_of m)) fs) (sym (refilled _ c.keep.new.frames.items c.write_each.new.frames so_many)) c.write_each.ensures)
