use Rattle.std.proofs.Common.{rules, ◌≤◌, List, ℕ, length, refl, subst, sym, lit<, arith}
use Rattle.bmc_core.proofs.OwnBytes.{response_read}
use Rattle.bmc_core.proofs.IpmbFrames.{frame_size, carried_of}
use Rattle.bmc_core.proofs.ipmb_port.replying.carry_out.Goals as goal

pub keep-requires : goal.keep-requires
keep-requires g c =
    let few : length c.kept.result.rest.now ≤ 27 = c.kept.ensures.room in
    let room : length c.kept.result.rest.now ≤ 32 = omega (arith, few) in
    let fits : length c.as_slice.result.now ≤ 32 = subst (λ (xs : List ℕ). length xs ≤ 32) (sym c.as_slice.ensures.value) (frame_size _ _ c.in-Ok.ensures.answered.response).1 in
    (lit< tt, (lit< tt, (room, fits)))

pub returns-in-Ok-clause-carried : goal.returns-in-Ok-clause-carried
returns-in-Ok-clause-carried g c =
    let done = c.in-Ok.ensures.answered in
    record {
      answered = done.answered;
      carried = done.carried;
      kept = carried_of c.args.windows.now _ c.kept.result c.args.request.now _ _ _ c.kept.ensures.is done.response c.as_slice.ensures.value c.keep.ensures.carried;
      sent = search rules;
      read = response_read _ _ _ done.response refl;
    }
