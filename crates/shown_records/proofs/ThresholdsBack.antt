-- What sets a sensor's thresholds to what their Get shows.
use Rattle.std.proofs.Common.{◌≡◌, ℕ, List, ◌∷◌, slice_index, Bool, true, false, Some, if◌then◌else◌, refl, sym, ◌∙◌, ap, subst, None}
use Rattle.std.specs.Option.{IsSome, is_some}
use Rattle.record_base.specs.declared.thresholds.SetThresholds.{SetThresholds}
use Rattle.record_base.specs.declared.threshold_masks.ThresholdMasks.{ThresholdMasks}
use Rattle.record_base.specs.InverseLaws.{made_where}
use Rattle.record_base.specs.Masks.{has}
use Rattle.sensor_recs.specs.Thresholds.{SetsThresholds, choose, zeros, shows_all, undo_thresholds, thresholds_view, words, record_words}
use Rattle.shown_records.specs.Probes.{probe_thresholds}
use Rattle.shown_records.proofs.SetBack.{IsSetBack, any_values}
use Rattle.shown_records.proofs.ThresholdsForeseen.{new_is, six_bytes}

-- a threshold that can be read becomes the one that was shown
one_back : (readable : Bool) (value old : ℕ) → (if readable then (if readable then (if readable then (if readable then value else 0) else 0) else old) else 0) ≡ (if readable then value else 0)
one_back true value old = refl
one_back false value old = refl

all_back : (readable : ℕ) (value old : List ℕ) → choose readable (choose readable (choose readable (choose readable value zeros) zeros) old) zeros ≡ choose readable value zeros
all_back readable value old =
    let at : (k : ℕ) → (if has readable k then (if has readable k then (if has readable k then (if has readable k then slice_index value k else 0) else 0) else slice_index old k) else 0)
    ≡ (if has readable k then slice_index value k else 0) = λ k. one_back (has readable k) _ _ in
    six_bytes _ _ _ _ _ _ _ _ _ _ _ _ (at 0) (at 1) (at 2) (at 3) (at 4) (at 5)

undone : (masks : ThresholdMasks) (sensor : ℕ) (value old new : List ℕ) → SetsThresholds masks (undo_thresholds (probe_thresholds sensor (thresholds_view masks value)) (thresholds_view masks value)) old new
    → thresholds_view masks new ≡ thresholds_view masks value
undone masks sensor value old new done =
    ap (thresholds_view masks) (new_is masks (undo_thresholds (probe_thresholds sensor (thresholds_view masks value)) (thresholds_view masks value)) old new done)
    ∙ ap (λ (xs : List ℕ). masks.readable ∷ xs) (all_back masks.readable value old)

back : (masks : ThresholdMasks) (sensor : ℕ) (op : SetThresholds) (value old new : List ℕ) → words.inverse (probe_thresholds sensor (thresholds_view masks value)) (thresholds_view masks value) ≡ Some op
    → SetsThresholds masks op old new → thresholds_view masks new ≡ thresholds_view masks value
back masks sensor op value old new is done =
    let probe = probe_thresholds sensor (thresholds_view masks value) in
    let same = (made_where (shows_all probe.mask (thresholds_view masks value)) (undo_thresholds probe (thresholds_view masks value)) op is).1 in
    undone masks sensor value old new (subst (λ (o : SetThresholds). SetsThresholds masks o old new) (sym same) done)

again : (masks : ThresholdMasks) (sensor : ℕ) (op : SetThresholds) (value : List ℕ) → words.inverse (probe_thresholds sensor (thresholds_view masks value)) (thresholds_view masks value) ≡ Some op
    → IsSome (words.inverse op (thresholds_view masks value))
again masks sensor op value is =
    let probe = probe_thresholds sensor (thresholds_view masks value) in
    let parts = made_where (shows_all probe.mask (thresholds_view masks value)) (undo_thresholds probe (thresholds_view masks value)) op is in
    subst (λ (o : SetThresholds). IsSome (words.inverse o (thresholds_view masks value))) parts.1
    (ap (λ b. is_some (if b then Some (undo_thresholds (undo_thresholds probe (thresholds_view masks value)) (thresholds_view masks value)) else None)) parts.0)

pub set_back : (masks : ThresholdMasks) → IsSetBack words (record_words masks) probe_thresholds any_values
set_back masks = record {
  again = λ sensor op value live. again masks sensor op value;
  back = λ sensor op value old new live is_valid whole. back masks sensor op value old new;
}
