-- Why the numbers of a greeting count from the manager's next request, and why no late copy of both greetings may come.
use Rattle.std.specs.Prelude.{◌≡◌, [], ◌∷◌}
use Rattle.model_bus.specs.Carried.{Repeats, IsNew, outcomes}
use Rattle.model_bus.specs.Numbering.{is_above}
use Rattle.model_bus.specs.Greeting.{asks}

-- Requests go on with 40 (PLDM: 20), as after a list. A greeting of constant numbers ended with its first request, and then a manager that
-- didn't greet asked request 40. Behind the whole greeting of these numbers request 40 is told the old reply.
abbrev pub ConstantsAreNotEnough : Type 0
ConstantsAreNotEnough =
    (outcomes (is_above 64) [] (asks 31 8 1 ∷ asks 40 7 2 ∷ asks 31 8 3 ∷ asks 63 9 4 ∷ asks 40 7 5 ∷ [])
    ≡ IsNew ∷ IsNew ∷ Repeats (1 ∷ []) ∷ IsNew ∷ Repeats (2 ∷ []) ∷ [])
    × (outcomes (is_above 32) [] (asks 15 8 1 ∷ asks 20 7 2 ∷ asks 15 8 3 ∷ asks 31 9 4 ∷ asks 20 7 5 ∷ [])
    ≡ IsNew ∷ IsNew ∷ Repeats (1 ∷ []) ∷ IsNew ∷ Repeats (2 ∷ []) ∷ [])

-- With the numbers that count from the next request, 7 and 39 (PLDM: 3 and 19), it is carried out.
abbrev pub CountedIsEnough : Type 0
CountedIsEnough =
    (outcomes (is_above 64) [] (asks 7 8 1 ∷ asks 40 7 2 ∷ asks 7 8 3 ∷ asks 39 9 4 ∷ asks 40 7 5 ∷ [])
    ≡ IsNew ∷ IsNew ∷ IsNew ∷ IsNew ∷ IsNew ∷ [])
    × (outcomes (is_above 32) [] (asks 3 8 1 ∷ asks 20 7 2 ∷ asks 3 8 3 ∷ asks 19 9 4 ∷ asks 20 7 5 ∷ [])
    ≡ IsNew ∷ IsNew ∷ IsNew ∷ IsNew ∷ IsNew ∷ [])

-- Late copies of both greetings, in their order, behind request 0: it is carried out twice.
abbrev pub LateCopiesForget : Type 0
LateCopiesForget =
    (outcomes (is_above 64) [] (asks 31 8 1 ∷ asks 63 9 2 ∷ asks 0 7 3 ∷ asks 31 8 4 ∷ asks 63 9 5 ∷ asks 0 7 6 ∷ [])
    ≡ IsNew ∷ IsNew ∷ IsNew ∷ IsNew ∷ IsNew ∷ IsNew ∷ [])
    × (outcomes (is_above 32) [] (asks 15 8 1 ∷ asks 31 9 2 ∷ asks 0 7 3 ∷ asks 15 8 4 ∷ asks 31 9 5 ∷ asks 0 7 6 ∷ [])
    ≡ IsNew ∷ IsNew ∷ IsNew ∷ IsNew ∷ IsNew ∷ IsNew ∷ [])
