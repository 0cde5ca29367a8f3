-- What takes an operation back that changes all of a record, sets the record: how it follows from the laws of a kind.
use Rattle.std.proofs.Common.{◌≡◌, ℕ, List, Bool, true, false, Some, None, if◌then◌else◌, refl, sym, ◌∙◌, ap, subst}
use Rattle.std.specs.Option.{IsSome, is_some}
use Rattle.record_base.specs.declared.live.Live.{Live}
use Rattle.record_base.specs.InverseLaws.{made_where}
use Rattle.record_base.specs.Kind.{KindWords, RecordWords, RecordLaws}

-- What takes `probe` back, by what the Get shows of a value, can be taken back by the same reply, and sets the record from any other value to what
-- shows the same configuration, where `Whole` holds of the two values.
pub record IsSetBack {K O : Type 0} (W : KindWords K O) (R : RecordWords K O) (probe : K → List ℕ → O) (Whole : K → List ℕ → List ℕ → Type 0) : Type 0 where
  pub again : (key : K) (op : O) (value : List ℕ) (live : Live) → W.inverse (probe key (R.view value live)) (R.view value live) ≡ Some op → IsSome (W.inverse op (R.view value live))
  pub back : (key : K) (op : O) (value old new : List ℕ) (live : Live) → R.valid value → Whole key value old
      → W.inverse (probe key (R.view value live)) (R.view value live) ≡ Some op → R.sets op old new → R.conf (R.view new live) ≡ R.conf (R.view value live)

-- the values may be any
abbrev pub any_values : {K : Type 0} → K → List ℕ → List ℕ → Type 0
any_values key value old = Unit {0}

-- an operation that takes itself back, and makes the same whatever the old value is, makes the value that the Get showed
same_again : {K O : Type 0} (W : KindWords K O) (R : RecordWords K O) → RecordLaws W R → (op : O) (value old new : List ℕ) (live : Live) → R.valid value → W.inverse op (R.view value live) ≡ Some op
    → ((one other made : List ℕ) → R.sets op one made → R.sets op other made) → R.sets op old new → new ≡ value
same_again W R laws op value old new live is_valid again moves done =
    let on_value : R.sets op value new = moves old value new done in
    let on_new : R.sets op new value = laws.undoes op op value new live is_valid on_value again in
    laws.determined op old new value done (moves new old value on_new)

-- the same of an inverse that a test gives
by_test : {K O : Type 0} (W : KindWords K O) (R : RecordWords K O) → RecordLaws W R → (b : Bool) (undo op : O) (value old new : List ℕ) (live : Live) → (if b then Some undo else None) ≡ Some op
    → (b ≡ true → W.inverse undo (R.view value live) ≡ Some undo) → (b ≡ true → (one other made : List ℕ) → R.sets undo one made → R.sets undo other made)
    → R.valid value → R.sets op old new → R.conf (R.view new live) ≡ R.conf (R.view value live)
by_test W R laws true undo op value old new live is again moves is_valid done =
    let same : undo ≡ op = (made_where true undo op is).1 in
    let is_value : new ≡ value = same_again W R laws undo value old new live is_valid (again refl) (moves refl) (subst (λ (o : _). R.sets o old new) (sym same) done) in
    ap (λ (xs : List ℕ). R.conf (R.view xs live)) is_value
by_test W R laws false undo op value old new live is again moves is_valid done = cc

again_by_test : {K O : Type 0} (W : KindWords K O) (b : Bool) (undo op : O) (reply : List ℕ) → (if b then Some undo else None) ≡ Some op → (b ≡ true → W.inverse undo reply ≡ Some undo) → IsSome (W.inverse op reply)
again_by_test W true undo op reply is again = subst (λ (o : _). IsSome (W.inverse o reply)) (made_where true undo op is).1 (ap is_some (again refl))
again_by_test W false undo op reply is again = cc

-- Where a test gives what takes `probe` back, this takes itself back, and it makes the same whatever the old value is.
pub set_back_by : {K O : Type 0} (W : KindWords K O) (R : RecordWords K O) → RecordLaws W R → (probe : K → List ℕ → O) (test : K → List ℕ → Bool) (undo : K → List ℕ → O)
    → ((key : K) (reply : List ℕ) → W.inverse (probe key reply) reply ≡ (if test key reply then Some (undo key reply) else None))
    → ((key : K) (reply : List ℕ) → test key reply ≡ true → W.inverse (undo key reply) reply ≡ Some (undo key reply))
    → ((key : K) (reply one other made : List ℕ) → test key reply ≡ true → R.sets (undo key reply) one made → R.sets (undo key reply) other made) → IsSetBack W R probe any_values
set_back_by W R laws probe test undo is again moves = record {
  again = λ key op value live taken.
      let reply : List ℕ = R.view value live in again_by_test W (test key reply) (undo key reply) op reply (sym (is key reply) ∙ taken) (again key reply);
  back = λ key op value old new live is_valid whole taken.
      let reply : List ℕ = R.view value live in
      by_test W R laws (test key reply) (undo key reply) op value old new live (sym (is key reply) ∙ taken) (again key reply) (λ holds one other made. moves key reply one other made holds) is_valid;
}
