-- The steps of a plan are foreseen on every board.
use Rattle.std.proofs.Common.{◌≡◌, ◌∙◌, ℕ, List, [], ◌∷◌, Bool, true, false, sym, ap, subst}
use Rattle.std.specs.Prelude.{if◌then◌else◌}
use Rattle.record_base.specs.declared.key.Key.{Key}
use Rattle.record_base.specs.declared.live.Live.{Live}
use Rattle.record_base.specs.declared.op.Op.{Op}
use Rattle.record_kinds.specs.declared.limits.Limits.{Limits}
use Rattle.record_kinds.specs.Limits.{conf, valid, view}
use Rattle.record_kinds.specs.LimitsLaws.{record_laws}
use Rattle.shown_records.specs.After.{after_of}
use Rattle.shown_records.specs.declared.meaning.Meaning.TheVariants.{Same, Changes}
use Rattle.shown_records.specs.Foresight.{Takes}
use Rattle.shown_records.specs.Meaning.{Means}
use Rattle.shown_records.proofs.BoardsForeseen.{changes_record, foresees, stays_same}
use Rattle.app_change.specs.Foreseeing.{can_go, left_behind}
use Rattle.app_change.specs.PreviewRuns.{Carries, ForeseesConfiguration, ForeseesSteps, MeansSo, SetsOrLeaves}
use Rattle.app_change.proofs.Steps.{left_first}

-- of one step, the value stays one that the record can have, and the Get shows what was foreseen
one_step : (limits : Limits) (key : Key) (op : Op) (old between : List ℕ) (live : Live) (goes : Bool) → valid limits old
    → SetsOrLeaves limits op goes old between
    → valid limits between × (view limits between live ≡ (if goes then after_of op (view limits old live) else view limits old live))
one_step limits key op old between live true is_valid done =
    ((record_laws limits).keeps op old between is_valid done, foresees limits op old between live (record { is_valid = is_valid; done = done }))
one_step limits key op old between live false is_valid same =
    (subst (valid limits) (sym same) is_valid, ap (λ (xs : List ℕ). view limits xs live) same)

pub foresees_steps : ForeseesSteps
foresees_steps limits key [] old new live is_valid carried = ap (λ (xs : List ℕ). view limits xs live) carried
foresees_steps limits key (op ∷ later) old new live is_valid carried =
    let here = one_step limits key op old carried.0 live (can_go key op (view limits old live)) is_valid carried.1 in
    foresees_steps limits key later carried.0 new live here.0 carried.2 ∙ ap (left_behind key later) here.1 ∙ sym (left_first key op later (view limits old live))

pub foresees_configuration : ForeseesConfiguration
foresees_configuration limits key steps old new live other is_valid carried =
    (record_laws limits).steady new other live ∙ ap (conf limits) (foresees_steps limits key steps old new live is_valid carried)

-- a value that the record can have behind the steps
stays_valid : (limits : Limits) (key : Key) (steps : List Op) (old new : List ℕ) (live : Live) → valid limits old → Carries limits key live steps old new → valid limits new
stays_valid limits key [] old new live is_valid carried = subst (valid limits) (sym carried) is_valid
stays_valid limits key (op ∷ later) old new live is_valid carried =
    let here = one_step limits key op old carried.0 live (can_go key op (view limits old live)) is_valid carried.1 in
    stays_valid limits key later carried.0 new live here.0 carried.2

pub means_so : MeansSo
means_so limits key steps op old mid new live is_valid carried done =
    let takes : Takes limits op mid new = record { is_valid = stays_valid limits key steps old mid live is_valid carried; done = done } in
    let shown : left_behind key steps (view limits old live) ≡ view limits mid live = sym (foresees_steps limits key steps old mid live is_valid carried) in (
      λ means. stays_same limits op mid new live takes (subst (λ (xs : List ℕ). Means op xs Same) shown means),
      λ means. changes_record limits op mid new live takes (subst (λ (xs : List ℕ). Means op xs Changes) shown means),
    )
