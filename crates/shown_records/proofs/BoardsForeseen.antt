-- The laws of what is foreseen of every board.
use Rattle.std.proofs.Common.{◌≡◌, ◌≢◌, ℕ, List, [], ◌∷◌, Option, Some, None, refl, sym, ◌∙◌, ap}
use Rattle.std.specs.Option.{IsSome}
use Rattle.record_base.specs.declared.live.Live.{Live}
use Rattle.record_base.specs.declared.op.Op.{Op}
use Rattle.record_kinds.specs.declared.limits.Limits.{Limits}
use Rattle.record_kinds.specs.Limits.{inverse, valid, view, conf}
use Rattle.record_kinds.specs.LimitsLaws.{record_laws}
use Rattle.shown_records.specs.Foresight.{ChangesRecord, Foresees, ForeseesAll, LeavesAll, StaysSame, TakesAll, after_all}
use Rattle.shown_records.proofs.AllForeseen.{foreseen}

some_there : {A : Type 0} (o : Option A) → o ≢ None → IsSome o
some_there (Some a) there = refl
some_there None there = absurd (there refl)

pub foresees : Foresees
foresees limits op old new live takes = (foreseen limits).foresees op old new live takes.is_valid takes.done

pub leaves_all : LeavesAll
leaves_all limits op old new live takes = (foreseen limits).told op old new live takes.is_valid takes.done

pub stays_same : StaysSame
stays_same limits op old new live takes means =
    (foreseen limits).stays op old new live takes.is_valid takes.done (some_there (inverse op (view limits old live)) means.0) (ap (conf limits) means.1)

pub changes_record : ChangesRecord
changes_record limits op old new live takes means is_old = means.1 (sym (foresees limits op old new live takes) ∙ ap (λ (xs : List ℕ). view limits xs live) is_old)

-- all that a Get shows behind operations, while the activity is the same
in_turn : (limits : Limits) (ops : List Op) (old new : List ℕ) (live : Live) → valid limits old → TakesAll limits ops old new → view limits new live ≡ after_all ops (view limits old live)
in_turn limits [] old new live is_valid taken = ap (λ (xs : List ℕ). view limits xs live) taken
in_turn limits (op ∷ later) old new live is_valid taken =
    in_turn limits later taken.0 new live ((record_laws limits).keeps op old taken.0 is_valid taken.1.0) taken.1.1
    ∙ ap (after_all later) (foresees limits op old taken.0 live (record { is_valid = is_valid; done = taken.1.0 }))

pub foresees_all : ForeseesAll
foresees_all limits ops old new live other is_valid taken =
    (record_laws limits).steady new other live ∙ ap (conf limits) (in_turn limits ops old new live is_valid taken)
