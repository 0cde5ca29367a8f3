use Rattle.std.proofs.Common.{◌≡◌, None, take}
use Rattle.app_revert.proofs.leaving.requests_to.Given as goal

abbrev pub invariant-loop-at : goal.invariant-loop-at
invariant-loop-at l = record { members : l.requests.members ≡ take l.at l.list.members; waiting : l.requests.waiting ≡ None }
