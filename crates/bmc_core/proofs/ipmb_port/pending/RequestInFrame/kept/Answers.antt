use Rattle.std.proofs.Common.{◌≡◌, ◌≤◌, length, ℕ, List, suc, arith, ap, subst}
use Rattle.bmc_core.proofs.ipmb_port.pending.RequestInFrame.kept.Goals as goal

pub returns-clause-room : goal.returns-clause-room
returns-clause-room c =
    let long : length c.self.inside.rest.now ≡ suc (suc (length c.self.inside.request.body)) = ap length c.self.invariant in
    let few : length c.self.inside.request.body ≤ 25 = subst (λ (xs : List ℕ). length xs ≤ 25) c.as_slice-data.ensures.value c.as_slice-data.ensures.fits in
    omega (arith, long, few)
