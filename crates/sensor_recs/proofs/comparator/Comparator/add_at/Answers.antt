use Rattle.std.proofs.Common.{◌≡◌, ℕ, List, ◌++◌, Bool, true, sym, ◌∙◌, ap, append_assoc}
use Rattle.sensor_recs.specs.declared.comparator.Event.{Event}
use Rattle.sensor_recs.specs.Readings.{crosses, was_beyond, counts}
use Rattle.sensor_recs.proofs.EventsMade.{asserted, deasserted, where_counted, made_at}
use Rattle.sensor_recs.proofs.comparator.Comparator.add_at.Goals as goal

pub returns-clause-items : goal.returns-clause-items
returns-clause-items c =
    let s = c.args.self.now in
    let beyond : List Bool = c.args.beyond.now in
    let place : ℕ = c.args.place in
    let before : List Event = c.args.events.now.items in
    let high : Bool = c.goes_high-high.result in
    let crossed : crosses s place (was_beyond beyond place) c.args.reading ≡ true = sym c.crosses.ensures ∙ c.if-not-crosses.false in
    let one : Event → List Event = λ e. where_counted (counts s) e in
    c.add-2.ensures.items
    ∙ ap (λ (xs : List Event). xs ++ one (deasserted place high)) c.add.ensures.items
    ∙ append_assoc before (one (asserted place high)) (one (deasserted place high))
    ∙ ap (λ (h : Bool). before ++ (one (asserted place h) ++ one (deasserted place h))) c.goes_high-high.ensures
    ∙ ap (λ (xs : List Event). before ++ xs) (sym (made_at s beyond c.args.reading place crossed))
