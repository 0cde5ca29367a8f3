use Rattle.std.proofs.Common.{◌≡◌, ℕ, ◌+◌, suc, List, ◌++◌, Bool, sym, ◌∙◌, ap, add-one, arith}
use Rattle.std.specs.List.{filter}
use Rattle.std.proofs.lemmas.List.Elements.{filter-append}
use Rattle.sensor_recs.specs.declared.comparator.Event.{Event}
use Rattle.sensor_recs.specs.Readings.{is_made, events_at, events_below}
use Rattle.sensor_recs.proofs.comparator.Comparator.events.Goals as goal

pub loop-place-preserved : goal.loop-place-preserved
loop-place-preserved c =
    let p : Event → Bool = is_made c.args.self.now c.args.beyond.now c.args.reading in
    let place : ℕ = c.loop-place.place in
    let next : suc place ≡ place + 1 = sym (add-one place) in
    record {
      so_far = c.add_at.ensures.items
          ∙ ap (λ (xs : List Event). xs ++ filter p (events_at place)) c.loop-place.invariant.so_far
          ∙ sym (filter-append p (events_below place) (events_at place))
          ∙ ap (λ (n : ℕ). filter p (events_below n)) next;
      few = omega (arith, c.add_at.ensures.few, c.loop-place.invariant.few);
    }

pub returns : goal.returns
returns c =
    let p : Event → Bool = is_made c.args.self.now c.args.beyond.now c.args.reading in
    let all : c.loop-place.place ≡ 6 = omega arith in
    c.loop-place.invariant.so_far ∙ ap (λ (n : ℕ). filter p (events_below n)) all
