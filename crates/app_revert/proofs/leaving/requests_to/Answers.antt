use Rattle.std.proofs.Common.{◌≡◌, ◌∙◌, ℕ, ap, arith, take}
use Rattle.undo_plans.specs.Requests.{meant}
use Rattle.app_revert.proofs.Reverts.{taken_alike, taken_more}
use Rattle.app_revert.proofs.leaving.requests_to.Goals as goal

pub loop-at-preserved : goal.loop-at-preserved
loop-at-preserved c =
    let at = rw c.unwrap-request.ensures at c.get.ensures.there in
    record {
      members = c.in_ok-add.ensures.members
          ∙ taken_more c.args.list.now.members c.loop-at.at (meant c.unwrap-request.result) c.loop-at.requests.members at c.loop-at.invariant.members;
      waiting = c.in_ok-add.ensures.waiting;
    }

pub returns : goal.returns
returns c =
    let all : c.loop-at.at ≡ c.count_to-at-end.result = omega (arith, c.loop-at.auto.at-end, c.loop-at-test.false) in
    c.loop-at.invariant.members ∙ ap (λ (n : ℕ). take n c.args.list.now.members) all
    ∙ taken_alike c.args.list.now.members c.count_to-at-end.result c.args.place c.count_to-at-end.ensures.count
