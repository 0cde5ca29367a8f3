-- The laws of whole messages.
use Rattle.std.proofs.Common.{refl, ℕ, ◌++◌, List, [], ◌∷◌}
use Rattle.std.proofs.lemmas.Bool.{or_parts}
use Rattle.model_bus.specs.Request.{Entry}
use Rattle.model_bus.specs.Numbering.{Rules, ipmb, smbus}
use Rattle.model_bus.specs.BusState.{BusState, Event, is_open, happens, run}
use Rattle.model_bus.specs.Schedule.{AllHonest, NoneOpenIsHonest}
use Rattle.model_bus.specs.AtMostOnce.{AtMostOnce, AlwaysAtMostOnce}
use Rattle.model_bus.specs.Effect.{EventsHaveEffects}
use Rattle.model_bus.proofs.NumberLaws.{IsNumbering, ipmb_numbers, smbus_numbers}
use Rattle.model_bus.proofs.Steps.{Holds, start_holds, run_holds}
use Rattle.model_bus.proofs.InLog.{LogShows, start_shows, run_shows}
use Rattle.model_bus.proofs.Effects.{has_effect}

-- a prefix of an honest schedule is honest
pub honest_prefix : (b : Rules) (events later : List Event) (s : BusState) → AllHonest b (events ++ later) s → AllHonest b events s
honest_prefix b [] later s honest = tt
honest_prefix b (e ∷ es) later s honest = (honest.0, honest_prefix b es later (happens b s e) honest.1)

-- and so is the rest, after it
pub honest_rest : (b : Rules) (events later : List Event) (s : BusState) → AllHonest b (events ++ later) s → AllHonest b later (run b events s)
honest_rest b [] later s honest = honest
honest_rest b (e ∷ es) later s honest = honest_rest b es later (happens b s e) honest.1

pub at_most_once_from : (b : Rules) (before : List Entry) (s : BusState) → Holds b s → LogShows b before s → AtMostOnce b before s
at_most_once_from b before s h shows = record {
  in_order = h.sound.in_order;
  replied = λ n reply e. let r = h.sound.replied n reply e in (r.kept, r.at, r.replied);
  answered = h.sound.answered;
  carried = h.sound.below;
  one_open = h.sound.one_open;
  nothing_else = shows;
}

always : (b : Rules) → IsNumbering b → AlwaysAtMostOnce b
always b numbers start events later none empty honest =
    let first = honest_prefix b events later start honest in
    at_most_once_from b start.log (run b events start) (run_holds b numbers events start (start_holds b start none empty) first)
    (run_shows b start.log events start (start_shows b start.log start none refl) first)

effects : (b : Rules) → IsNumbering b → EventsHaveEffects b
effects b numbers start events e none empty honest =
    has_effect b numbers (run b events start) e
    (run_holds b numbers events start (start_holds b start none empty) (honest_prefix b events (e ∷ []) start honest))
    (honest_rest b events (e ∷ []) start honest).0

pub ipmb_always : (manager controller first : ℕ) → AlwaysAtMostOnce (ipmb manager controller first)
ipmb_always manager controller first = always (ipmb manager controller first) (ipmb_numbers manager controller first)

pub smbus_always : (manager controller first : ℕ) → AlwaysAtMostOnce (smbus manager controller first)
smbus_always manager controller first = always (smbus manager controller first) (smbus_numbers manager controller first)

pub ipmb_effects : (manager controller first : ℕ) → EventsHaveEffects (ipmb manager controller first)
ipmb_effects manager controller first = effects (ipmb manager controller first) (ipmb_numbers manager controller first)

pub smbus_effects : (manager controller first : ℕ) → EventsHaveEffects (smbus manager controller first)
smbus_effects manager controller first = effects (smbus manager controller first) (smbus_numbers manager controller first)

pub none_open : NoneOpenIsHonest
none_open = record {
  idle = λ b here there requester closed mine. (or_parts (is_open here) (is_open there) closed).0;
  resumes = λ b here there closed. (or_parts (is_open here) (is_open there) closed).0;
}
