-- What is foreseen of a kind of record, and how it follows from the laws of the kind.
use Rattle.std.proofs.Common.{◌≡◌, ℕ, List, Bool, true, false, if◌then◌else◌, Ok, Err, sym, ◌∙◌, ap}
use Rattle.std.specs.Option.{IsSome}
use Rattle.record_base.specs.declared.live.Live.{Live}
use Rattle.record_base.specs.Meaning.{DecidesValue}
use Rattle.record_base.specs.Kind.{KindWords, RecordWords, RecordLaws}

-- where a record of the kind accepts an operation at a value that it can have, `after` is what its Get shows then
pub record IsForeseen {K O : Type 0} (W : KindWords K O) (R : RecordWords K O) (after : O → List ℕ → List ℕ) : Type 0 where
  -- all that the Get shows, while the activity is the same
  pub foresees : (op : O) (old new : List ℕ) (live : Live) → R.valid old → R.sets op old new → R.view new live ≡ after op (R.view old live)
  -- where that has the old configuration, and the operation can be taken back, the value is the old one
  pub stays : (op : O) (old new : List ℕ) (live : Live) → R.valid old → R.sets op old new → IsSome (W.inverse op (R.view old live))
      → R.conf (after op (R.view old live)) ≡ R.conf (R.view old live) → new ≡ old
  -- and all that the Get shows is what it showed
  pub told : (op : O) (old new : List ℕ) (live : Live) → R.valid old → R.sets op old new
      → R.conf (after op (R.view old live)) ≡ R.conf (R.view old live) → after op (R.view old live) ≡ R.view old live

-- where the outcome of an accepted operation is by a test, the new value is the one that the outcome makes
pub made_only : (b : Bool) (made : List ℕ) (code : ℕ) (Holds : List ℕ → Type 0) (new : List ℕ) → DecidesValue (if b then Ok made else Err code) Holds
    → ((one other : List ℕ) → Holds one → Holds other → one ≡ other) → Holds new → new ≡ made
made_only true made code Holds new decides same holds = same new made holds decides
made_only false made code Holds new decides same holds = absurd (decides new holds)

-- where a Get shows the whole value, the same configuration is the same value
same_value : {K O : Type 0} (W : KindWords K O) (R : RecordWords K O) → RecordLaws W R → ((value : List ℕ) → R.shown value ≡ value)
    → (op : O) (old new after : List ℕ) (live : Live) → R.valid old → R.sets op old new → R.view new live ≡ after → R.conf after ≡ R.conf (R.view old live) → new ≡ old
same_value W R laws whole op old new after live is_valid done foreseen same =
    sym (whole new) ∙ laws.tells new old live (laws.keeps op old new is_valid done) is_valid (ap R.conf foreseen ∙ same) ∙ whole old

-- where a Get shows the whole value, and `after` is what it shows, all the rest follows
pub whole_foreseen : {K O : Type 0} (W : KindWords K O) (R : RecordWords K O) (after : O → List ℕ → List ℕ) → RecordLaws W R → ((value : List ℕ) → R.shown value ≡ value)
    → ((op : O) (old new : List ℕ) (live : Live) → R.valid old → R.sets op old new → R.view new live ≡ after op (R.view old live)) → IsForeseen W R after
whole_foreseen W R after laws whole foresees = record {
  foresees = foresees;
  stays = λ op old new live is_valid done some. same_value W R laws whole op old new (after op (R.view old live)) live is_valid done (foresees op old new live is_valid done);
  told = λ op old new live is_valid done same.
      let is_old : new ≡ old = same_value W R laws whole op old new (after op (R.view old live)) live is_valid done (foresees op old new live is_valid done) same in
      sym (foresees op old new live is_valid done) ∙ ap (λ (xs : List ℕ). R.view xs live) is_old;
}
