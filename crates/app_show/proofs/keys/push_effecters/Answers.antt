use Rattle.std.proofs.Common.{◌≡◌, ◌∙◌, ◌+◌, ◌-◌, ◌++◌, ℕ, suc, ap, subst, arith}
use Rattle.std.specs.List.{flat_map, range_with_len}
use Rattle.app_show.specs.Keys.{id_keys}
use Rattle.app_show.proofs.Pushed.{keys_more, none_left}
use Rattle.app_show.proofs.keys.push_effecters.Goals as goal

pub loop-id-preserved : goal.loop-id-preserved
loop-id-preserved c =
    let first = c.args.ids.first in
    let one_more : suc (c.loop-id.id - first) ≡ c.loop-id.id + 1 - first = omega (arith, c.loop-id.invariant.begun) in
    record {
      begun = omega (arith, c.loop-id.invariant.begun);
      few = λ less. omega (arith, less, c.loop-id.invariant.begun, c.loop-id-test.true);
      pushed = subst (λ (n : ℕ). c.extend_from_slice.new.self.items ≡ c.args.keys.now.items ++ flat_map id_keys (range_with_len first n)) one_more
          (keys_more id_keys c.args.keys.now.items c.loop-id.keys.items c.extend_from_slice.new.self.items first (c.loop-id.id - first) c.loop-id.id c.loop-id.invariant.pushed
          c.in_ok-extend_from_slice.ensures.items (omega (arith, c.loop-id.invariant.begun)));
    }

pub returns : goal.returns
returns c =
    let all : c.loop-id.id - c.args.ids.first ≡ suc c.args.ids.last - c.args.ids.first =
    none_left c.args.ids.first c.args.ids.last c.loop-id.id c.loop-id.invariant.begun c.loop-id-test.false c.loop-id.auto.id-end c.loop-id.invariant.few in
    c.loop-id.invariant.pushed ∙ ap (λ (n : ℕ). c.args.keys.now.items ++ flat_map id_keys (range_with_len c.args.ids.first n)) all

pub returns-in_ok-extend_from_slice : goal.returns-in_ok-extend_from_slice
returns-in_ok-extend_from_slice c =
    let first = c.args.ids.first in
    let all : suc (c.loop-id.id - first) ≡ suc c.args.ids.last - first = omega (arith, c.loop-id.invariant.begun) in
    subst (λ (n : ℕ). c.extend_from_slice.new.self.items ≡ c.args.keys.now.items ++ flat_map id_keys (range_with_len first n)) all
    (keys_more id_keys c.args.keys.now.items c.loop-id.keys.items c.extend_from_slice.new.self.items first (c.loop-id.id - first) c.loop-id.id c.loop-id.invariant.pushed
    c.in_ok-extend_from_slice.ensures.items (omega (arith, c.loop-id.invariant.begun)))
