use Rattle.std.proofs.Common.{◌<◌, List, Bool, sym, ◌∙◌, ap, subst}
use Rattle.std.specs.List.{All}
use Rattle.sensor_recs.specs.declared.comparator.Event.{Event}
use Rattle.sensor_recs.specs.Readings.{beyond_after, events_of}
use Rattle.sensor_recs.proofs.TakenFacts.{same_taken, places_of}
use Rattle.sensor_recs.proofs.comparator.Comparator.take.Goals as goal

pub returns-clause-taken : goal.returns-clause-taken
returns-clause-taken c =
    same_taken c.args.reading _ _ _ _ (c.read_taken-events.ensures.beyond ∙ ap (λ (b : List Bool). beyond_after c.args.self.now b c.args.reading) c.last_beyond-beyond.ensures)

pub returns-clause-events : goal.returns-clause-events
returns-clause-events c = c.read_taken-events.ensures.events ∙ ap (λ (b : List Bool). events_of c.args.self.now b c.args.reading) c.last_beyond-beyond.ensures

pub returns-clause-places : goal.returns-clause-places
returns-clause-places c =
    subst (λ (es : List Event). All (λ (e : Event). e.place < 6) es) (sym c.read_taken-events.ensures.events) (places_of c.args.self.now c.last_beyond-beyond.result c.args.reading)
