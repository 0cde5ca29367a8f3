-- The laws of the kind UserAccess.
use Rattle.std.proofs.Common.{◌≡◌, ℕ, ◌+◌, ◌*◌, ◌/◌, ◌%◌, ◌<◌, List, [], ◌∷◌, length, slice_index, ◌==◌, Bool, true, false, IsTrue, if◌then◌else◌, Ok, Err, Some, refl, sym, ◌∙◌, ap, subst, arith}
use Rattle.std.proofs.lemmas.Bool.Decides.{nat_tests}
use Rattle.two_wire.specs.Codes.{invalid_data_field}
use Rattle.record_base.specs.declared.live.Live.{Live}
use Rattle.record_base.specs.declared.user.SetUserAccess.{SetUserAccess}
use Rattle.record_base.specs.Masks.{has}
use Rattle.record_base.specs.Meaning.{DecidesValue, IsRefusal}
use Rattle.record_base.specs.InverseLaws.{some_where, made_where, tested_same, same_tested}
use Rattle.record_base.specs.Kind.{KindLaws, RecordLaws}
use Rattle.record_base.specs.RefusalLaws.{refused_field}
use Rattle.record_base.specs.Numbers.{low_below, channel_in, user_in, user_on}
use Rattle.record_base.specs.NumberLaws.{same_field}
use Rattle.record_base.specs.UserAccess.{is_limit, IsUserAccess}
use Rattle.record_base.specs.PartLaws.{IsUserAccess-prop}
use Rattle.user_chan.specs.CommonLaws.{one, true_not_false, again}
use Rattle.user_chan.specs.declared.user_access.UserAccessLimits.{UserAccessLimits}
use Rattle.user_chan.specs.UserAccess.{bits_of, low_of, changes_bits, SetsUserAccess, next_bits, byte_of, access_view, first_byte, undo_access, IsPlainAccess, words, record_words}

-- ---- what a Set makes

-- the bits above a limit
next_below : (b : Bool) (m n : ℕ) → (if b then bits_of m else bits_of n) < 8
next_below true m n = omega arith
next_below false m n = omega arith

joined_low : (bits limit : ℕ) → bits < 8 → low_of (bits * 16 + low_of limit) ≡ low_of limit
joined_low bits limit lt = omega arith

joined_bits : (bits limit : ℕ) → bits < 8 → bits_of (bits * 16 + low_of limit) ≡ bits
joined_bits bits limit lt = omega arith

joined_below : (bits limit : ℕ) → bits < 8 → bits * 16 + low_of limit < 128
joined_below bits limit lt = omega arith

picked : (b c : Bool) (m n : ℕ) → b ≡ c → (if b then m else n) ≡ (if c then m else n)
picked b c m n same = ap (λ (t : Bool). if t then m else n) same

sets_next : (op : SetUserAccess) (old : List ℕ) → IsTrue (is_limit (low_of op.limit)) → SetsUserAccess op old (byte_of (next_bits op (slice_index old 0)) op.limit ∷ [])
sets_next op old accepted =
    let bits : ℕ = next_bits op (slice_index old 0) in
    let few : bits < 8 = next_below (changes_bits op) op.first (slice_index old 0) in
    record {
      accepted = accepted;
      one = refl;
      seven_bits = joined_below bits op.limit few;
      limited = joined_low bits op.limit few;
      changed = λ on. joined_bits bits op.limit few ∙ picked (changes_bits op) true _ _ on;
      kept = λ off. joined_bits bits op.limit few ∙ picked (changes_bits op) false _ _ off;
    }

bits_are : (op : SetUserAccess) (old new : List ℕ) → SetsUserAccess op old new → (b : Bool) → changes_bits op ≡ b → bits_of (slice_index new 0) ≡ (if b then bits_of op.first else bits_of (slice_index old 0))
bits_are op old new s true is = s.changed is
bits_are op old new s false is = s.kept is

whole : (byte bits low : ℕ) → byte < 128 → bits_of byte ≡ bits → low_of byte ≡ low → byte ≡ bits * 16 + low
whole byte bits low lt p q = omega arith

-- the new value is the outcome's value
next_only : (op : SetUserAccess) (old new : List ℕ) → SetsUserAccess op old new → new ≡ byte_of (next_bits op (slice_index old 0)) op.limit ∷ []
next_only op old new s =
    one new s.one ∙ ap (λ (n : ℕ). n ∷ []) (whole (slice_index new 0) _ _ s.seven_bits (bits_are op old new s (changes_bits op) refl) s.limited)

decided : (op : SetUserAccess) (old : List ℕ) (b : Bool) → is_limit (low_of op.limit) ≡ b
    → DecidesValue (if b then Ok (byte_of (next_bits op (slice_index old 0)) op.limit ∷ []) else Err invalid_data_field) (SetsUserAccess op old)
decided op old true is = sets_next op old is
decided op old false is = λ new s. true_not_false _ s.accepted is

refused : (made : List ℕ) (code : ℕ) (b : Bool) → (if b then Ok made else Err invalid_data_field) ≡ Err code → IsRefusal code
refused made code true is = cc
refused made code false is = refused_field code (Err invalid_data_field) refl is

keeps_access : (op : SetUserAccess) (old new : List ℕ) → SetsUserAccess op old new → IsUserAccess new
keeps_access op old new s = record {
  one = s.one;
  seven_bits = s.seven_bits;
  limited = subst (λ (n : ℕ). IsTrue (is_limit n)) (sym s.limited) s.accepted;
}

-- ---- what an undo brings back

not_one : (n : ℕ) → n ≡ 0 → (n == 1) ≡ false
not_one n zero_is = grind (arith, nat_tests)

-- the first byte of an inverse: it changes the bits exactly where the operation did
first_changes : (b : Bool) (bits low : ℕ) → bits < 8 → low < 16 → has (if b then 128 + bits * 16 + low else low) 7 ≡ b
first_changes true bits low few small = same_tested _ 1 (omega arith)
first_changes false bits low few small = not_one (low / 128 % 2) (omega arith)

first_bits : (b : Bool) (bits low : ℕ) → bits < 8 → low < 16 → b ≡ true → bits_of (if b then 128 + bits * 16 + low else low) ≡ bits
first_bits true bits low few small is = omega arith
first_bits false bits low few small is = cc

no_bits : (b : Bool) (bits low : ℕ) → low < 16 → b ≡ false → bits_of (if b then 128 + bits * 16 + low else low) ≡ 0
no_bits true bits low small is = cc
no_bits false bits low small is = omega arith

first_low : (b : Bool) (bits low : ℕ) → bits < 8 → low < 16 → low_of (if b then 128 + bits * 16 + low else low) ≡ low
first_low true bits low few small = omega arith
first_low false bits low few small = omega arith

few_bits : (n : ℕ) → bits_of n < 8
few_bits n = omega arith

small_low : (n : ℕ) → low_of n < 16
small_low n = omega arith

low_again : (n : ℕ) → low_of (low_of n) ≡ low_of n
low_again n = omega arith

-- the inverse is plain
undo_is_plain : (op : SetUserAccess) (reply : List ℕ) → IsPlainAccess (undo_access op reply)
undo_is_plain op reply =
    let bits : ℕ = bits_of (slice_index reply 3) in
    let same : changes_bits (undo_access op reply) ≡ changes_bits op = first_changes (changes_bits op) bits (low_of op.first) (few_bits _) (small_low _) in
    record {
      user = low_below 6 op.user;
      limit = small_low _;
      unchanged = λ off. no_bits (changes_bits op) bits (low_of op.first) (small_low _) (sym same ∙ off);
      three = refl;
    }

-- the inverse is on the same user and channel
users_on : (c d : ℕ) (u v : ℕ) → channel_in c ≡ channel_in d → user_in u ≡ user_in v → user_on c u ≡ user_on d v
users_on c d u v p q i = record { channel = p i; user = q i }

same_on : (op : SetUserAccess) (reply : List ℕ) → user_on (undo_access op reply).first (undo_access op reply).user ≡ user_on op.first op.user
same_on op reply =
    let bits : ℕ = bits_of (slice_index reply 3) in
    users_on _ _ _ _
    (same_field (channel_in (first_byte op bits)) (channel_in op.first) (first_low (changes_bits op) bits (low_of op.first) (few_bits _) (small_low _)))
    (same_field (user_in (op.user % 64)) (user_in op.user) (again op.user))

-- the inverse brings the old value back
undoes_access : (limits : UserAccessLimits) (op : SetUserAccess) (old new : List ℕ) (live : Live) → IsUserAccess old → SetsUserAccess op old new → SetsUserAccess (undo_access op (access_view limits old live)) new old
undoes_access limits op old new live v s =
    let byte : ℕ = slice_index old 0 in
    let same : changes_bits (undo_access op (access_view limits old live)) ≡ changes_bits op = first_changes (changes_bits op) (bits_of byte) (low_of op.first) (few_bits _) (small_low _) in
    record {
      accepted = subst (λ (n : ℕ). IsTrue (is_limit n)) (sym (low_again byte)) v.limited;
      one = v.one;
      seven_bits = v.seven_bits;
      limited = sym (low_again byte);
      changed = λ on. sym (first_bits (changes_bits op) (bits_of byte) (low_of op.first) (few_bits _) (small_low _) (sym same ∙ on));
      kept = λ off. sym (s.kept (sym same ∙ off));
    }

-- the inverse of an operation
made_access : (op made : SetUserAccess) (reply : List ℕ) → words.inverse op reply ≡ Some made → undo_access op reply ≡ made
made_access op made reply is = (made_where (length reply == 4) (undo_access op reply) made is).1

-- ---- the kind

pub kind_laws : KindLaws words
kind_laws = record {
  set_short = λ op. omega arith;
  invertible = λ op reply. some_where (length reply == 4) (undo_access op reply) _ (λ is. (tested_same _ _ is, tt)) (λ h. same_tested _ _ h.0);
  plain = λ op made reply is. subst IsPlainAccess (made_access op made reply is) (undo_is_plain op reply);
}

pub record_laws : (limits : UserAccessLimits) → RecordLaws words (record_words limits)
record_laws limits = record {
  one_proof = IsUserAccess-prop;
  taken = λ op old new done. tt;
  decides = λ op value. decided op value (is_limit (low_of op.limit)) refl;
  refuses = λ op value code is. refused (byte_of (next_bits op (slice_index value 0)) op.limit ∷ []) code (is_limit (low_of op.limit)) is;
  determined = λ op old new other done also. next_only op old new done ∙ sym (next_only op old other also);
  keeps = λ op old new is_valid done. keeps_access op old new done;
  fits = λ op old new done. same_tested (length new) 1 done.one;
  replies = λ op value live here is_valid. refl;
  get_short = λ on value live here is_valid. omega arith;
  steady = λ value live other. refl;
  tells = λ value other live is_valid is_other same. one value is_valid.one ∙ same ∙ sym (one other is_other.one);
  same_record = λ op made value live here is_valid is.
      ap (λ (o : SetUserAccess). user_on o.first o.user) (sym (made_access op made (access_view limits value live) is)) ∙ same_on op (access_view limits value live);
  undoes = λ op made old new live is_valid done is.
      subst (λ (o : SetUserAccess). SetsUserAccess o new old) (made_access op made (access_view limits old live) is) (undoes_access limits op old new live is_valid done);
}
