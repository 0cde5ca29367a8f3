-- The laws of the kind PowerPolicy.
use Rattle.std.proofs.Common.{◌≡◌, ◌≢◌, ℕ, zero, suc, ◌+◌, ◌*◌, ◌/◌, ◌%◌, ◌<◌, ◌≤◌, List, [], ◌∷◌, length, slice_index, nat_le, ◌==◌, not, Bool, true, false, if◌then◌else◌, Ok, Err, refl, sym, ◌∙◌, ap, subst, Some, arith}
use Rattle.std.proofs.lemmas.Grind.{same_number_lists}
use Rattle.std.proofs.lemmas.Bool.Decides.{nat_tests}
use Rattle.two_wire.specs.Codes.{invalid_data_field}
use Rattle.record_base.specs.declared.key.Key.TheVariants as key
use Rattle.record_base.specs.declared.power_policy.SetPowerPolicy.{SetPowerPolicy}
use Rattle.record_base.specs.declared.live.Live.{Live}
use Rattle.record_base.specs.Keys.{is_length}
use Rattle.record_base.specs.MaskLaws.{both, both_true}
use Rattle.record_base.specs.Meaning.{DecidesValue, IsRefusal}
use Rattle.record_base.specs.InverseLaws.{some_where, made_where, tested_same, same_tested}
use Rattle.record_base.specs.Kind.{KindLaws, RecordLaws}
use Rattle.record_base.specs.RefusalLaws.{refused_field}
use Rattle.record_base.specs.PowerPolicy.{IsPowerPolicy}
use Rattle.record_base.specs.PartLaws.{IsPowerPolicy-prop}
use Rattle.watch_boot.specs.PowerPolicy.{asked_policy, SetsPolicy, next_policy, status, shown_policy, is_known, undo_policy, words, record_words}

at_first : (xs : List ℕ) (x : ℕ) → length xs ≡ 1 → slice_index xs 0 ≡ x → (k : ℕ) → k < length xs → slice_index xs k ≡ slice_index (x ∷ []) k
at_first xs x one is zero lt = is
at_first xs x one is (suc k) lt = absurd (omega arith)

-- a list of one is its member
one_byte : (xs : List ℕ) (x : ℕ) → length xs ≡ 1 → slice_index xs 0 ≡ x → xs ≡ x ∷ []
one_byte xs x one is = same_number_lists xs (x ∷ []) one (at_first xs x one is)

-- ---- what a Set makes

same_policy : (asked old : ℕ) (b : Bool) → (asked == 3) ≡ b → (new : ℕ) → asked ≤ 3 → (asked < 3 → new ≡ asked) → (asked ≡ 3 → new ≡ old) → new ≡ (if b then old else asked)
same_policy asked old true is new known changed unchanged = unchanged (let same : (asked == 3) ≡ true = is in grind (arith, nat_tests))
same_policy asked old false is new known changed unchanged = changed (let other : (asked == 3) ≡ false = is in grind (arith, nat_tests))

-- the new value is the next policy
next_only : (op : SetPowerPolicy) (old new : List ℕ) → SetsPolicy op old new → new ≡ next_policy op old ∷ []
next_only op old new s = one_byte new _ s.one (same_policy (asked_policy op) (slice_index old 0) (asked_policy op == 3) refl (slice_index new 0) s.known s.changed s.unchanged)

policy_below : (asked old : ℕ) (b : Bool) → (asked == 3) ≡ b → asked < 3 → (if b then old else asked) ≡ asked
policy_below asked old true is lt = let same : (asked == 3) ≡ true = is in absurd (grind (arith, nat_tests))
policy_below asked old false is lt = refl

policy_same : (asked old : ℕ) (b : Bool) → (asked == 3) ≡ b → asked ≡ 3 → (if b then old else asked) ≡ old
policy_same asked old true is three = refl
policy_same asked old false is three = let other : (asked == 3) ≡ false = is in absurd (grind (arith, nat_tests))

next_sets : (op : SetPowerPolicy) (old : List ℕ) → asked_policy op ≤ 3 → SetsPolicy op old (next_policy op old ∷ [])
next_sets op old known = record {
  known = known;
  one = refl;
  changed = policy_below (asked_policy op) (slice_index old 0) (asked_policy op == 3) refl;
  unchanged = policy_same (asked_policy op) (slice_index old 0) (asked_policy op == 3) refl;
}

at_most : (a b : ℕ) → nat_le a b ≡ true → a ≤ b
at_most a b h = grind (arith, nat_tests)

above : (a b : ℕ) → nat_le a b ≡ false → a ≤ b → ⊥
above a b h le = grind (arith, nat_tests)

decided : (op : SetPowerPolicy) (old : List ℕ) (b : Bool) → nat_le (asked_policy op) 3 ≡ b → DecidesValue (if b then Ok (next_policy op old ∷ []) else Err invalid_data_field) (SetsPolicy op old)
decided op old true is = next_sets op old (at_most _ _ is)
decided op old false is = λ new s. above _ _ is s.known

refused : (made : List ℕ) (code : ℕ) (b : Bool) → (if b then Ok made else Err invalid_data_field) ≡ Err code → IsRefusal code
refused made code true is = cc
refused made code false is = refused_field code (Err invalid_data_field) refl is

known_next : (asked old : ℕ) (b : Bool) → asked ≤ 3 → old ≤ 3 → (if b then old else asked) ≤ 3
known_next asked old true known was = was
known_next asked old false known was = known

keeps_policy : (op : SetPowerPolicy) (old new : List ℕ) → IsPowerPolicy old → SetsPolicy op old new → IsPowerPolicy new
keeps_policy op old new v s =
    let is_next : slice_index new 0 ≡ next_policy op old = ap (λ (xs : List ℕ). slice_index xs 0) (next_only op old new s) in
    let known : next_policy op old ≤ 3 = known_next (asked_policy op) (slice_index old 0) (asked_policy op == 3) s.known v.known in
    record { one = s.one; known = omega arith }

-- ---- what an undo brings back

-- the status shows the policy, whatever the chassis bits are
pub shows : (policy chassis : ℕ) → (policy * 32 + chassis % 32) / 32 % 4 ≡ policy % 4
shows policy chassis = omega arith

undoes_policy : (old new : List ℕ) (live : Live) → IsPowerPolicy old → shown_policy (status old live) ≢ 3 → SetsPolicy (undo_policy (status old live)) new old
undoes_policy old new live v other =
    let shown : shown_policy (status old live) ≡ slice_index old 0 % 4 = shows (slice_index old 0) live.chassis in
    let known : slice_index old 0 ≤ 3 = v.known in record {
      known = omega arith;
      one = v.one;
      changed = λ lt. omega arith;
      unchanged = λ three. absurd (omega arith);
    }

not_three : (n : ℕ) → not (n == 3) ≡ true → n ≢ 3
not_three n h is = grind (arith, nat_tests)

three_not : (n : ℕ) → n ≢ 3 → (b : Bool) → (n == 3) ≡ b → not b ≡ true
three_not n other true is = absurd (other (tested_same n 3 is))
three_not n other false is = refl

-- the test holds for the statuses of a known policy
known_tested : (reply : List ℕ) → is_known reply ≡ true → (length reply ≡ 3) × (shown_policy reply ≢ 3)
known_tested reply is = let tests = both_true (length reply == 3) _ is in (tested_same _ _ tests.0, not_three _ tests.1)

tested_known : (reply : List ℕ) → (length reply ≡ 3) × (shown_policy reply ≢ 3) → is_known reply ≡ true
tested_known reply h = both _ _ (same_tested _ _ h.0) (three_not (shown_policy reply) h.1 (shown_policy reply == 3) refl)

-- the inverse of an operation, from a status
made_policy : (op made : SetPowerPolicy) (reply : List ℕ) → words.inverse op reply ≡ Some made → (is_known reply ≡ true) × (undo_policy reply ≡ made)
made_policy op made reply is = made_where (is_known reply) (undo_policy reply) made is

undo_is_plain : (reply : List ℕ) → (undo_policy reply).policy < 8
undo_is_plain reply = omega arith

-- ---- what of a status is configuration

-- the policy that a status shows determines the value
told_policy : (value other : List ℕ) (live : Live) → IsPowerPolicy value → IsPowerPolicy other → shown_policy (status value live) ∷ [] ≡ shown_policy (status other live) ∷ [] → value ≡ other
told_policy value other live v w same =
    let heads : shown_policy (status value live) ≡ shown_policy (status other live) = ap (λ (xs : List ℕ). slice_index xs 0) same in
    let one : shown_policy (status value live) ≡ slice_index value 0 % 4 = shows (slice_index value 0) live.chassis in
    let two : shown_policy (status other live) ≡ slice_index other 0 % 4 = shows (slice_index other 0) live.chassis in
    let low : slice_index value 0 ≤ 3 = v.known in
    let also : slice_index other 0 ≤ 3 = w.known in
    let policies : slice_index value 0 ≡ slice_index other 0 = omega arith in
    one_byte value _ v.one policies ∙ sym (one_byte other _ w.one refl)

-- ---- the kind

pub kind_laws : KindLaws words
kind_laws = record {
  set_short = λ op. omega arith;
  invertible = λ op reply. some_where (is_known reply) (undo_policy reply) _ (known_tested reply) (tested_known reply);
  plain = λ op made reply is. subst words.is_plain (made_policy op made reply is).1 (undo_is_plain reply);
}

pub record_laws : RecordLaws words record_words
record_laws = record {
  one_proof = IsPowerPolicy-prop;
  taken = λ op old new done. tt;
  decides = λ op value. decided op value (nat_le (asked_policy op) 3) refl;
  refuses = λ op value code is. refused (next_policy op value ∷ []) code (nat_le (asked_policy op) 3) is;
  determined = λ op old new other done also. next_only op old new done ∙ sym (next_only op old other also);
  keeps = keeps_policy;
  fits = λ op old new done. ap (is_length key.PowerPolicy) done.one;
  replies = λ op value live here is_valid. refl;
  steady = λ value live other. ap (λ (n : ℕ). n ∷ []) (shows (slice_index value 0) live.chassis ∙ sym (shows (slice_index value 0) other.chassis));
  get_short = λ alone value live here is_valid. omega arith;
  tells = told_policy;
  same_record = λ op made value live here is_valid is. refl;
  undoes = λ op made old new live is_valid done is.
      let is_made = made_policy op made (status old live) is in
      subst (λ (o : SetPowerPolicy). SetsPolicy o new old) is_made.1 (undoes_policy old new live is_valid (known_tested (status old live) is_made.0).1);
}
