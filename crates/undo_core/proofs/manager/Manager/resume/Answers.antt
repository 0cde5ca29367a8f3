use Rattle.std.proofs.Common.{rules, ◌≡◌, ℕ, List, length, refl, sym, ◌∙◌, ap, lit<, arith}
use Rattle.std.specs.Prelude.{reverse}
use Rattle.std.proofs.lemmas.List.{length-map, length-reverse}
use Rattle.record_kinds.specs.Series.{Sends}
use Rattle.undo_core.proofs.manager.Manager.resume.Goals as goal

pub returns-clause-resumed : goal.returns-clause-resumed
returns-clause-resumed c = record {
  named = refl;
  is_named = refl;
  listed = refl;
  plan = sym c.none.ensures;
  retries = search rules;
  stage = (length-map (reverse c.args.undo.requests.members) Sends ∙ length-reverse c.args.undo.requests.members ∙ sym c.len.ensures.value, refl);
  stopped = refl;
  resent = refl;
  undo = refl;
  counts = search rules;
  sequence = omega arith;
  instance = omega arith;
  joined = sym c.in-Ok.ensures;
}

pub invariant_of-result : goal.invariant_of-result
invariant_of-result c =
    let empty : length c.in-Ok-open.replies ≡ 0 = ap (λ (l : List ℕ). length l) c.in-Ok-open.ensures in
    record {
      planned = omega arith;
      kept = omega arith;
      few = omega (arith, c.len.ensures.value, c.len.ensures.few);
      counted = omega (arith, c.len.ensures.value, c.len.ensures.few, c.number.ensures.below, c.from.ensures, c.number-2.ensures.below, c.from-2.ensures);
      roomy = record { places = omega arith; room = omega arith };
      parted = lit< tt;
      filled = omega (arith, empty);
      placed = omega (arith, c.len.ensures.value, c.len.ensures.few);
      unsent = refl;
    }
