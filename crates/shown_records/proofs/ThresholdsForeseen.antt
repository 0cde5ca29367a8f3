-- What is foreseen of a sensor's thresholds.
use Rattle.std.proofs.Common.{◌≡◌, ℕ, ◌<◌, List, [], ◌∷◌, slice_index, Bool, true, false, if◌then◌else◌, refl, sym, ◌∙◌, ap, subst, arith}
use Rattle.std.proofs.lemmas.Grind.{same_number_lists}
use Rattle.std.specs.Option.{IsSome}
use Rattle.two_wire.specs.Codes.{invalid_data_field}
use Rattle.record_base.specs.declared.live.Live.{Live}
use Rattle.record_base.specs.declared.thresholds.SetThresholds.{SetThresholds}
use Rattle.record_base.specs.declared.threshold_masks.ThresholdMasks.{ThresholdMasks}
use Rattle.record_base.specs.Masks.{has, IsWithin}
use Rattle.record_base.specs.Sensor.Thresholds.{IsThresholds}
use Rattle.sensor_recs.specs.Thresholds.{SetsThresholds, choose, zeros, merged, is_accepted, thresholds_view, words, record_words}
use Rattle.sensor_recs.specs.ThresholdsLaws.{choose_at, kind_laws, record_laws}
use Rattle.shown_records.specs.Sensors.{after_thresholds}
use Rattle.shown_records.proofs.Foreseen.{IsForeseen, made_only}

pub new_is : (masks : ThresholdMasks) (op : SetThresholds) (old new : List ℕ) → SetsThresholds masks op old new → new ≡ merged op old
new_is masks op old new done =
    made_only (is_accepted masks op old) (merged op old) invalid_data_field (SetsThresholds masks op old) new ((record_laws masks).decides op old) ((record_laws masks).determined op old) done

-- a threshold that is read, of a choice between two, is the choice between those that are read
one_read : (readable chosen : Bool) (first second : ℕ) →
    (if readable then (if chosen then first else second) else 0) ≡ (if chosen then (if readable then first else 0) else (if readable then second else 0))
one_read true true first second = refl
one_read true false first second = refl
one_read false true first second = refl
one_read false false first second = refl

pub six_bytes : (a b c d e f u v w x y z : ℕ) → a ≡ u → b ≡ v → c ≡ w → d ≡ x → e ≡ y → f ≡ z → a ∷ b ∷ c ∷ d ∷ e ∷ f ∷ [] ≡ u ∷ v ∷ w ∷ x ∷ y ∷ z ∷ []
six_bytes a b c d e f u v w x y z p q r s t o i = p i ∷ q i ∷ r i ∷ s i ∷ t i ∷ o i ∷ []

all_read : (readable : ℕ) (op : SetThresholds) (old : List ℕ) → choose readable (merged op old) zeros ≡ choose op.mask (choose readable op.values zeros) (choose readable old zeros)
all_read readable op old =
    let at : (k : ℕ) → (if has readable k then (if has op.mask k then slice_index op.values k else slice_index old k) else 0)
    ≡ (if has op.mask k then (if has readable k then slice_index op.values k else 0) else (if has readable k then slice_index old k else 0)) = λ k. one_read (has readable k) (has op.mask k) _ _ in
    six_bytes _ _ _ _ _ _ _ _ _ _ _ _ (at 0) (at 1) (at 2) (at 3) (at 4) (at 5)

foresees : (masks : ThresholdMasks) (op : SetThresholds) (old new : List ℕ) → SetsThresholds masks op old new → thresholds_view masks new ≡ after_thresholds op (thresholds_view masks old)
foresees masks op old new done = ap (thresholds_view masks) (new_is masks op old new done) ∙ ap (λ (xs : List ℕ). masks.readable ∷ xs) (all_read masks.readable op old)

then_is : (b : Bool) (x y : ℕ) → b ≡ true → x ≡ (if b then x else y)
then_is b x y e = ap (λ v. if v then x else y) (sym e)

-- a threshold is what it was, where the operation leaves it, or where it can be read and the same is read
same_at : (masks : ThresholdMasks) (op : SetThresholds) (old new : List ℕ) → SetsThresholds masks op old new → IsWithin op.mask masks.readable
    → choose masks.readable new zeros ≡ choose masks.readable old zeros → (k : ℕ) → k < 6 → (b : Bool) → has op.mask k ≡ b → slice_index new k ≡ slice_index old k
same_at masks op old new done within same k lt true is =
    let read : has masks.readable k ≡ true = within k (omega arith) is in
    then_is (has masks.readable k) (slice_index new k) (slice_index zeros k) read ∙ sym (choose_at masks.readable new zeros k lt) ∙ ap (λ (xs : List ℕ). slice_index xs k) same
    ∙ choose_at masks.readable old zeros k lt ∙ sym (then_is (has masks.readable k) (slice_index old k) (slice_index zeros k) read)
same_at masks op old new done within same k lt false is = done.others k lt is

stays : (masks : ThresholdMasks) (op : SetThresholds) (old new : List ℕ) (live : Live) → IsThresholds masks old → SetsThresholds masks op old new → IsSome (words.inverse op (thresholds_view masks old))
    → after_thresholds op (thresholds_view masks old) ≡ thresholds_view masks old → new ≡ old
stays masks op old new live is_valid done some same =
    let within : IsWithin op.mask masks.readable = ((kind_laws.invertible op (thresholds_view masks old)).0 some).1 in
    let shows : choose masks.readable new zeros ≡ choose masks.readable old zeros =
    (record_laws masks).tells new old live ((record_laws masks).keeps op old new is_valid done) is_valid (foresees masks op old new done ∙ same) in
    same_number_lists new old (done.six ∙ sym is_valid.six) (λ k lt. same_at masks op old new done within shows k (subst (λ (n : ℕ). k < n) done.six lt) (has op.mask k) refl)

pub foreseen : (masks : ThresholdMasks) → IsForeseen words (record_words masks) after_thresholds
foreseen masks = record {
  foresees = λ op old new live is_valid done. foresees masks op old new done;
  stays = stays masks;
  told = λ op old new live is_valid done same. same;
}
