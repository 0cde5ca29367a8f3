use Rattle.std.proofs.Common.{rules, ◌≡◌, ◌≤◌, ℕ, List, length, refl, sym, ap, lit<, arith}
use Rattle.record_base.specs.declared.message.Asked.{Asked}
use Rattle.undo_plans.specs.Steps.{most_steps}
use Rattle.undo_core.specs.Shown.{backs}
use Rattle.undo_core.proofs.manager.Manager.open.Goals as goal

pub returns-clause-opened : goal.returns-clause-opened
returns-clause-opened c = record {
  named = refl;
  is_named = refl;
  listed = search rules;
  plan = refl;
  retries = search rules;
  stage = tt;
  stopped = refl;
  resent = refl;
  undo = ap backs (sym c.in-Ok-room_for.ensures.members);
  counts = refl;
  sequence = search rules;
  instance = search rules;
  joined = sym c.in-Ok.ensures;
}

pub invariant_of-result : goal.invariant_of-result
invariant_of-result c =
    let few : length c.args.plan.steps ≤ most_steps = omega (arith, c.len-steps.ensures.value, c.len-steps.ensures.few) in
    let none : length c.in-Ok-room_for.requests.members ≡ 0 = ap (λ (l : List Asked). length l) c.in-Ok-room_for.ensures.members in
    let empty : length c.in-Ok-open.replies ≡ 0 = ap (λ (l : List ℕ). length l) c.in-Ok-open.ensures in
    record {
      planned = omega arith;
      kept = omega arith;
      few = omega (arith, none);
      counted = omega (arith, few);
      roomy = c.in-Ok-room_for.ensures.room;
      parted = lit< tt;
      filled = omega (arith, empty);
      placed = tt;
      unsent = refl;
    }
