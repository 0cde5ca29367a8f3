-- The laws of the kind Watchdog.
use Rattle.std.proofs.Common.{◌≡◌, ℕ, zero, suc, ◌-◌, ◌==◌, min, not, ◌/◌, ◌%◌, ◌<◌, ◌≤◌, List, [], ◌∷◌, drop, length, slice_index, get_or, nat_le, ◌&&◌, Bool, true, false, if◌then◌else◌, Ok, Err, IsFalse, refl, sym, ◌∙◌, ap, subst, Some, arith}
use Rattle.std.proofs.lemmas.Grind.{same_number_lists, common_steps}
use Rattle.std.proofs.lemmas.Bool.Decides.{nat_tests}
use Rattle.std.proofs.lemmas.Nat.{le_bytes_2}
use Rattle.std.proofs.lemmas.Nat.Bits.{bit_at_and, bit_at_not, bit_at-lt}
use Rattle.std.specs.Int.{bit_at, w8, w16, to_le_bytes, from_le_bytes}
use Rattle.two_wire.specs.Codes.{invalid_data_field}
use Rattle.record_base.specs.Masks.{has}
use Rattle.record_base.specs.declared.key.Key.TheVariants as key
use Rattle.record_base.specs.declared.watchdog.SetWatchdog.{SetWatchdog}
use Rattle.record_base.specs.declared.live.Live.{Live}
use Rattle.record_base.specs.Keys.{is_length}
use Rattle.record_base.specs.MaskLaws.{both}
use Rattle.record_base.specs.Meaning.{DecidesValue, IsRefusal}
use Rattle.record_base.specs.InverseLaws.{some_where, made_where, tested_same, same_tested}
use Rattle.record_base.specs.Kind.{KindLaws, RecordLaws}
use Rattle.record_base.specs.RefusalLaws.{refused_field}
use Rattle.record_base.specs.Watchdog.{IsWatchdog, watchdog_value}
use Rattle.record_base.specs.PartLaws.{IsWatchdog-prop}
use Rattle.watch_boot.specs.Watchdog.{use_in, kept_use, without_bit_6, interrupt_in, action_in, kept_actions, HasSettings, SetsWatchdog, settings_of, is_accepted, shown_use, watchdog_view, ClearsNamed, configuration, IsStopped, is_stopped, undo_watchdog, words, record_words}

-- ---- what a Set makes

le_from : (a b : ℕ) → nat_le a b ≡ true → a ≤ b
le_from a b h = grind (arith, nat_tests)

to_le : (a b : ℕ) → a ≤ b → nat_le a b ≡ true
to_le a b h = grind (arith, nat_tests)

-- four tests that hold together hold each
record AllTrue (a b c d : Bool) : Type 0 where
  pub first : a ≡ true
  pub second : b ≡ true
  pub third : c ≡ true
  pub fourth : d ≡ true

all_true : (a b c d : Bool) → (a && b && c && d) ≡ true → AllTrue a b c d
all_true true true true true h = record { first = refl; second = refl; third = refl; fourth = refl }
all_true true true true false h = cc
all_true true true false d h = cc
all_true true false c d h = cc
all_true false b c d h = cc

log_kept : (byte : ℕ) → kept_use byte / 128 ≡ byte / 128
log_kept byte = omega arith

use_kept : (byte : ℕ) → use_in (kept_use byte) ≡ use_in byte
use_kept byte = omega arith

use_alone : (byte : ℕ) → kept_use byte % 128 < 8
use_alone byte = omega arith

interrupt_kept : (byte : ℕ) → interrupt_in (kept_actions byte) ≡ interrupt_in byte
interrupt_kept byte = omega arith

action_kept : (byte : ℕ) → action_in (kept_actions byte) ≡ action_in byte
action_kept byte = omega arith

seven_bits : (byte : ℕ) → kept_actions byte < 128
seven_bits byte = omega arith

action_alone : (byte : ℕ) → kept_actions byte % 16 < 8
action_alone byte = omega arith

only_use : (n byte : ℕ) → n / 128 ≡ byte / 128 → use_in n ≡ use_in byte → n % 128 < 8 → n ≡ kept_use byte
only_use n byte log same alone = omega arith

only_actions : (n byte : ℕ) → interrupt_in n ≡ interrupt_in byte → action_in n ≡ action_in byte → n < 128 → n % 16 < 8 → n ≡ kept_actions byte
only_actions n byte interrupt action small alone = omega arith

-- a list of five is its first three members and the others
three_and : (xs : List ℕ) → length xs ≡ 5 → xs ≡ slice_index xs 0 ∷ slice_index xs 1 ∷ slice_index xs 2 ∷ drop 3 xs
three_and (a ∷ b ∷ c ∷ xs) five = refl
three_and [] five = absurd (omega arith)
three_and (a ∷ []) five = absurd (omega arith)
three_and (a ∷ b ∷ []) five = absurd (omega arith)

four_parts : (a b c x y z : ℕ) (rest last : List ℕ) → a ≡ x → b ≡ y → c ≡ z → rest ≡ last → a ∷ b ∷ c ∷ rest ≡ x ∷ y ∷ z ∷ last
four_parts a b c x y z rest last p q r s i = p i ∷ q i ∷ r i ∷ s i

-- the relation holds of the function's value, and of no other
has_settings : (op : SetWatchdog) → HasSettings op (settings_of op)
has_settings op = record {
  five = refl;
  same_log = log_kept op.timer_use;
  same_use = use_kept op.timer_use;
  no_other_use = use_alone op.timer_use;
  same_interrupt = interrupt_kept op.actions;
  same_action = action_kept op.actions;
  no_bit_7 = seven_bits op.actions;
  no_bit_3 = action_alone op.actions;
  pre_timeout = refl;
  initial = refl;
}

only_settings : (op : SetWatchdog) (value : List ℕ) → HasSettings op value → value ≡ settings_of op
only_settings op value has =
    three_and value has.five
    ∙ four_parts _ _ _ _ _ _ _ _ (only_use (slice_index value 0) op.timer_use has.same_log has.same_use has.no_other_use) (only_actions (slice_index value 1) op.actions has.same_interrupt has.same_action has.no_bit_7 has.no_bit_3) has.pre_timeout has.initial

accepted_sets : (op : SetWatchdog) → is_accepted op ≡ true → SetsWatchdog op (settings_of op)
accepted_sets op h =
    let tests = all_true (nat_le 1 (use_in op.timer_use)) (nat_le (use_in op.timer_use) 5) (nat_le (interrupt_in op.actions) 3) (nat_le (action_in op.actions) 3) h in record {
      a_use = le_from _ _ tests.first;
      known_use = le_from _ _ tests.second;
      known_interrupt = le_from _ _ tests.third;
      known_action = le_from _ _ tests.fourth;
      settings = has_settings op;
    }

sets_accepted : (op : SetWatchdog) (new : List ℕ) → SetsWatchdog op new → is_accepted op ≡ true
sets_accepted op new s = both _ _ (both _ _ (both _ _ (to_le _ _ s.a_use) (to_le _ _ s.known_use)) (to_le _ _ s.known_interrupt)) (to_le _ _ s.known_action)

decided : (op : SetWatchdog) (b : Bool) → is_accepted op ≡ b → DecidesValue (if b then Ok (settings_of op) else Err invalid_data_field) (SetsWatchdog op)
decided op true is = accepted_sets op is
decided op false is = λ new s. let accepted : is_accepted op ≡ true = sets_accepted op new s in cc

refused : (made : List ℕ) (code : ℕ) (b : Bool) → (if b then Ok made else Err invalid_data_field) ≡ Err code → IsRefusal code
refused made code true is = cc
refused made code false is = refused_field code (Err invalid_data_field) refl is

keeps_watchdog : (op : SetWatchdog) (new : List ℕ) → SetsWatchdog op new → IsWatchdog new
keeps_watchdog op new s = rw (only_settings op new s.settings) (record {
  five = refl;
  known_use = let h : use_in op.timer_use ≤ 5 = s.known_use in omega arith;
  known_interrupt = let h : interrupt_in op.actions ≤ 3 = s.known_interrupt in omega arith;
  known_action = let h : action_in op.actions ≤ 3 = s.known_action in omega arith;
  low_byte = omega arith;
  high_byte = omega arith;
})

-- ---- what an undo brings back

-- a timer use byte of valid settings is kept whole, whether the reply shows a timer that runs or not
kept_whole : (byte : ℕ) (running : Bool) → byte % 128 ≤ 5 → kept_use (kept_use (shown_use byte running)) ≡ byte
kept_whole byte true known = omega arith
kept_whole byte false known = omega arith

same_use : (byte : ℕ) (running : Bool) → byte % 128 ≤ 5 → use_in (kept_use (shown_use byte running)) ≡ use_in (shown_use byte running)
same_use byte true known = omega arith
same_use byte false known = omega arith

-- an actions byte of valid settings is kept whole
kept_both : (byte : ℕ) → byte / 16 ≤ 3 → byte % 16 ≤ 3 → kept_actions (kept_actions byte) ≡ byte
kept_both byte interrupt action = omega arith

each_byte : (low high : ℕ) → low < 256 → high < 256 → (i : ℕ) → get_or (low ∷ high ∷ []) i 0 < 256
each_byte low high l h zero = l
each_byte low high l h (suc zero) = h
each_byte low high l h (suc (suc i)) = omega arith

-- two bytes of a number are those bytes
same_bytes : (low high : ℕ) → low < 256 → high < 256 → to_le_bytes w16 (from_le_bytes w16 (low ∷ high ∷ [])) ≡ low ∷ high ∷ []
same_bytes low high l h = le_bytes_2 (low ∷ high ∷ []) _ refl (each_byte low high l h) refl

-- a list of five is its members
five_members : (xs : List ℕ) → length xs ≡ 5 → xs ≡ slice_index xs 0 ∷ slice_index xs 1 ∷ slice_index xs 2 ∷ slice_index xs 3 ∷ slice_index xs 4 ∷ []
five_members xs five = same_number_lists _ _ five (λ k lt. grind (arith, common_steps))

value_of_same : (a b c n v w x y z : ℕ) → a ≡ v → b ≡ w → c ≡ x → to_le_bytes w16 n ≡ y ∷ z ∷ [] → watchdog_value a b c n ≡ v ∷ w ∷ x ∷ y ∷ z ∷ []
value_of_same a b c n v w x y z p q r s = cc

undoes_watchdog : (old : List ℕ) (live : Live) → IsWatchdog old → IsStopped (watchdog_view old live) → SetsWatchdog (undo_watchdog (watchdog_view old live)) old
undoes_watchdog old live v stopped =
    let again : old ≡ settings_of (undo_watchdog (watchdog_view old live)) =
    five_members old v.five ∙ sym (value_of_same _ _ _ _ _ _ _ _ _ (kept_whole (slice_index old 0) live.running v.known_use) (kept_both (slice_index old 1) v.known_interrupt v.known_action) refl (same_bytes (slice_index old 3) (slice_index old 4) v.low_byte v.high_byte)) in record {
      a_use = let h : 1 ≤ use_in (shown_use (slice_index old 0) live.running) = stopped.a_use in omega (arith, same_use (slice_index old 0) live.running v.known_use);
      known_use = let h : use_in (shown_use (slice_index old 0) live.running) ≤ 5 = stopped.known_use in omega (arith, same_use (slice_index old 0) live.running v.known_use);
      known_interrupt = let h : slice_index old 1 / 16 ≤ 3 = v.known_interrupt in omega arith;
      known_action = let h : slice_index old 1 % 16 ≤ 3 = v.known_action in omega arith;
      settings = subst (HasSettings (undo_watchdog (watchdog_view old live))) (sym again) (has_settings (undo_watchdog (watchdog_view old live)));
    }

false_of : (b : Bool) → not b ≡ true → IsFalse b
false_of true h = cc
false_of false h = refl

not_of : (b : Bool) → IsFalse b → not b ≡ true
not_of true h = cc
not_of false h = refl

-- the test holds for the replies of a stopped timer whose settings have a use
stopped_tested : (reply : List ℕ) → is_stopped reply ≡ true → (length reply ≡ 8) × IsStopped reply
stopped_tested reply is =
    let tests = all_true (length reply == 8) (not (has (slice_index reply 0) 6)) (nat_le 1 (use_in (slice_index reply 0))) (nat_le (use_in (slice_index reply 0)) 5) is in (
      tested_same _ _ tests.first,
      record { not_running = false_of _ tests.second; a_use = le_from _ _ tests.third; known_use = le_from _ _ tests.fourth },
    )

tested_stopped : (reply : List ℕ) → (length reply ≡ 8) × IsStopped reply → is_stopped reply ≡ true
tested_stopped reply h = both _ _ (both _ _ (both _ _ (same_tested _ _ h.0) (not_of _ h.1.not_running)) (to_le _ _ h.1.a_use)) (to_le _ _ h.1.known_use)

-- the inverse of an operation, from a reply
made_watchdog : (op made : SetWatchdog) (reply : List ℕ) → words.inverse op reply ≡ Some made → (is_stopped reply ≡ true) × (undo_watchdog reply ≡ made)
made_watchdog op made reply is = made_where (is_stopped reply) (undo_watchdog reply) made is

undo_is_plain : (op : SetWatchdog) (reply : List ℕ) → words.is_plain (undo_watchdog reply)
undo_is_plain op reply = (omega arith, omega arith, omega arith)

-- ---- what isn't configuration

steady_use : (byte : ℕ) (running : Bool) → without_bit_6 (shown_use byte running) ≡ without_bit_6 byte
steady_use byte true = omega arith
steady_use byte false = omega arith

-- a timer use byte of valid settings has 0 in bit 6
no_bit_6 : (byte : ℕ) → byte % 128 ≤ 5 → without_bit_6 byte ≡ byte
no_bit_6 byte known = omega arith

-- five bytes, one for each place of the settings
five_bytes : (a b c d e v w x y z : ℕ) → a ≡ v → b ≡ w → c ≡ x → d ≡ y → e ≡ z → a ∷ b ∷ c ∷ d ∷ e ∷ [] ≡ v ∷ w ∷ x ∷ y ∷ z ∷ []
five_bytes a b c d e v w x y z p q r s t = cc

-- the configuration bytes of a reply determine the settings
told_settings : (value other : List ℕ) (live : Live) → IsWatchdog value → IsWatchdog other → configuration (watchdog_view value live) ≡ configuration (watchdog_view other live) → value ≡ other
told_settings value other live v w same =
    let at : (k : ℕ) → slice_index (configuration (watchdog_view value live)) k ≡ slice_index (configuration (watchdog_view other live)) k = λ k. ap (λ (xs : List ℕ). slice_index xs k) same in
    let use_is : slice_index value 0 ≡ slice_index other 0 =
    sym (steady_use (slice_index value 0) live.running ∙ no_bit_6 (slice_index value 0) v.known_use) ∙ at 0 ∙ steady_use (slice_index other 0) live.running ∙ no_bit_6 (slice_index other 0) w.known_use in
    five_members value v.five ∙ five_bytes _ _ _ _ _ _ _ _ _ _ use_is (at 1) (at 2) (at 3) (at 4) ∙ sym (five_members other w.five)

-- ---- the flags

one_of_two : (a b : ℕ) → a < 2 → b < 2 → (min a (1 - b) == 1) ≡ ((a == 1) && not (b == 1))
one_of_two zero zero small also = refl
one_of_two zero (suc zero) small also = refl
one_of_two zero (suc (suc b)) small also = absurd (omega arith)
one_of_two (suc zero) zero small also = refl
one_of_two (suc zero) (suc zero) small also = refl
one_of_two (suc zero) (suc (suc b)) small also = absurd (omega arith)
one_of_two (suc (suc a)) b small also = absurd (omega arith)

pub clears_named : ClearsNamed
clears_named flags named place fits within =
    ap (λ (n : ℕ). n == 1) (bit_at_and flags (255 - named) place ∙ ap (min (bit_at flags place)) (bit_at_not w8 named place fits within))
    ∙ one_of_two (bit_at flags place) (bit_at named place) (bit_at-lt flags place) (bit_at-lt named place)

-- ---- the kind

pub kind_laws : KindLaws words
kind_laws = record {
  set_short = λ op. omega arith;
  invertible = λ op reply. some_where (is_stopped reply) (undo_watchdog reply) _ (stopped_tested reply) (tested_stopped reply);
  plain = λ op made reply is. subst words.is_plain (made_watchdog op made reply is).1 (undo_is_plain op reply);
}

pub record_laws : RecordLaws words record_words
record_laws = record {
  one_proof = IsWatchdog-prop;
  taken = λ op old new done. tt;
  decides = λ op value. decided op (is_accepted op) refl;
  refuses = λ op value code is. refused (settings_of op) code (is_accepted op) is;
  determined = λ op old new other done also. only_settings op new done.settings ∙ sym (only_settings op other also.settings);
  keeps = λ op old new is_valid done. keeps_watchdog op new done;
  fits = λ op old new done. ap (λ (xs : List ℕ). is_length key.Watchdog (length xs)) (only_settings op new done.settings);
  replies = λ op value live here is_valid. refl;
  steady = λ value live other.
      ap (λ (n : ℕ). n ∷ slice_index value 1 ∷ slice_index value 2 ∷ slice_index value 3 ∷ slice_index value 4 ∷ [])
      (steady_use (slice_index value 0) live.running ∙ sym (steady_use (slice_index value 0) other.running));
  get_short = λ alone value live here is_valid. omega arith;
  tells = told_settings;
  same_record = λ op made value live here is_valid is. refl;
  undoes = λ op made old new live is_valid done is.
      let is_made = made_watchdog op made (watchdog_view old live) is in
      subst (λ (o : SetWatchdog). SetsWatchdog o old) is_made.1 (undoes_watchdog old live is_valid (stopped_tested (watchdog_view old live) is_made.0).1);
}
