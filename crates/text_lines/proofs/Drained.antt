-- What an iterator gave to its end.
use Rattle.std.proofs.Common.{◌≡◌, map, List, Option}
use Rattle.std.specs.Iterator.{Drains}
use Rattle.std.proofs.lemmas.Iterator.{items_from_drains, YieldsList}

-- v reads each item
pub drained : {S A B : Type 0} {steps : S → Option A → S → Type 0} {v : A → B} {s : S} {all : List B} (xs : List A) → Drains steps s xs → YieldsList steps v s all → map v xs ≡ all
drained xs d road = items_from_drains xs (d.1.0, d.1.1, λ _. (d.0, d.1.2)) road
