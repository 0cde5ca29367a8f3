use Rattle.std.proofs.Common.{arith, sym, subst, ◌≤◌, length}
use Rattle.record_kinds.specs.Stagings.{StagedParts, most_stagings}
use Rattle.record_kinds.proofs.KeptStagings.{fewer}
use Rattle.record_kinds.proofs.stagings.Stagings.staged.Goals as goal

pub returns-in-Some-clause-room : goal.returns-in-Some-clause-room
returns-in-Some-clause-room c =
    let few : length c.args.self.now ≤ most_stagings = subst (λ (stagings : StagedParts). length stagings ≤ most_stagings) c.self.view_is c.self.invariant.few in
    omega (arith, fewer c.args.from c.args.self.now c.in-Some.staging.now (sym c.in-Some.ensures.kept), few)
