-- The laws of the kind ChannelAccess.
use Rattle.std.proofs.Common.{◌≡◌, ℕ, ◌%◌, ◌<◌, ◌≤◌, List, [], ◌∷◌, length, slice_index, ◌==◌, Bool, true, false, IsTrue, if◌then◌else◌, Ok, Err, Some, refl, sym, ◌∙◌, ap, subst, arith}
use Rattle.two_wire.specs.Codes.{invalid_data_field}
use Rattle.record_base.specs.declared.channel.ChannelChange.{ChannelChange}
use Rattle.record_base.specs.declared.channel.ChannelChange.TheVariants.{Access, Limit, Both}
use Rattle.record_base.specs.declared.channel.SetChannelAccess.{SetChannelAccess}
use Rattle.record_base.specs.MaskLaws.{both_true, both}
use Rattle.record_base.specs.Meaning.{DecidesValue, IsRefusal}
use Rattle.record_base.specs.InverseLaws.{some_where, made_where, tested_same, same_tested}
use Rattle.record_base.specs.Kind.{KindLaws, RecordLaws}
use Rattle.record_base.specs.RefusalLaws.{refused_field}
use Rattle.record_base.specs.Values.{stored}
use Rattle.record_base.specs.ChannelAccess.{IsChannelAccess}
use Rattle.record_base.specs.PartLaws.{IsChannelAccess-prop}
use Rattle.record_base.specs.AttributeRangeLaws.{le_true, true_le}
use Rattle.record_base.specs.UserSizes.{least_privilege, most_privilege, most_mode, has_mode}
use Rattle.user_chan.specs.CommonLaws.{two, true_not_false}
use Rattle.user_chan.specs.ChannelAccess.{is_limit, is_change, changed, ChangesAccess, SetsChannelAccess, undo_change, undo_channel, is_plain_change, words, record_words}

-- ---- what a Set makes

pairs : (a b c d : ℕ) → a ≡ c → b ≡ d → a ∷ b ∷ [] ≡ c ∷ d ∷ []
pairs a b c d p q i = p i ∷ q i ∷ []

-- the relation holds of the function's value, and of no other
changes_access : (change : ChannelChange) (old : List ℕ) → ChangesAccess change old (changed change old)
changes_access (Access access) old = record { two = refl; access = refl; limit = refl }
changes_access (Limit limit) old = record { two = refl; access = refl; limit = refl }
changes_access (Both access limit) old = record { two = refl; access = refl; limit = refl }

only_changed : (change : ChannelChange) (old new : List ℕ) → ChangesAccess change old new → new ≡ changed change old
only_changed (Access access) old new made = two new made.two ∙ pairs _ _ _ _ made.access made.limit
only_changed (Limit limit) old new made = two new made.two ∙ pairs _ _ _ _ made.access made.limit
only_changed (Both access limit) old new made = two new made.two ∙ pairs _ _ _ _ made.access made.limit

decided : (op : SetChannelAccess) (old : List ℕ) (b : Bool) → is_change op.change ≡ b → DecidesValue (if b then Ok (changed op.change old) else Err invalid_data_field) (SetsChannelAccess op old)
decided op old true is = record { accepted = is; made = changes_access op.change old }
decided op old false is = λ new s. true_not_false _ s.accepted is

refused : (made : List ℕ) (code : ℕ) (b : Bool) → (if b then Ok made else Err invalid_data_field) ≡ Err code → IsRefusal code
refused made code true is = cc
refused made code false is = refused_field code (Err invalid_data_field) refl is

keeps_change : (change : ChannelChange) (old : List ℕ) → IsTrue (is_change change) → IsChannelAccess old → IsChannelAccess (changed change old)
keeps_change (Access access) old is v = record { two = refl; six_bits = access.below; mode = true_le _ _ is; least = v.least; most = v.most }
keeps_change (Limit limit) old is v = let tests = both_true _ _ is in record { two = refl; six_bits = v.six_bits; mode = v.mode; least = true_le _ _ tests.0; most = true_le _ _ tests.1 }
keeps_change (Both access limit) old is v =
    let tests = both_true _ _ is in
    let limits = both_true _ _ tests.1 in
    record { two = refl; six_bits = access.below; mode = true_le _ _ tests.0; least = true_le _ _ limits.0; most = true_le _ _ limits.1 }

-- ---- what an undo brings back

-- an old byte is six bits, and an old limit four
six : (n : ℕ) → n < 64 → n % 64 ≡ n
six n lt = omega arith

four : (n : ℕ) → n ≤ most_privilege → n % 16 % 64 % 16 ≡ n
four n le = omega arith

mode_six : (n : ℕ) → n % 8 ≤ most_mode → n % 64 % 8 ≤ most_mode
mode_six n le = omega arith

access_again : (n : ℕ) → n % 8 ≤ most_mode → has_mode (n % 64) ≡ true
access_again n le = le_true _ _ (mode_six n le)

limit_again : (n : ℕ) → least_privilege ≤ n → n ≤ most_privilege → is_limit (n % 16 % 64) ≡ true
limit_again n least most =
    let same : n % 16 % 64 % 16 ≡ n = four n most in
    let above : least_privilege ≤ n % 16 % 64 % 16 = omega arith in
    let below : n % 16 % 64 % 16 ≤ most_privilege = omega arith in
    both _ _ (le_true _ _ above) (le_true _ _ below)

accepts_undo : (change : ChannelChange) (old : List ℕ) → IsChannelAccess old → is_change (undo_change change old) ≡ true
accepts_undo (Access access) old v = access_again _ v.mode
accepts_undo (Limit limit) old v = limit_again _ v.least v.most
accepts_undo (Both access limit) old v = both _ _ (access_again _ v.mode) (limit_again _ v.least v.most)

back : (change : ChannelChange) (old : List ℕ) → IsChannelAccess old → slice_index old 0 ∷ slice_index old 1 ∷ [] ≡ changed (undo_change change old) (changed change old)
back (Access access) old v = pairs _ _ _ _ (sym (six _ v.six_bits)) refl
back (Limit limit) old v = pairs _ _ _ _ refl (sym (four _ v.most))
back (Both access limit) old v = pairs _ _ _ _ (sym (six _ v.six_bits)) (sym (four _ v.most))

undoes_channel : (op : SetChannelAccess) (old new : List ℕ) → IsChannelAccess old → SetsChannelAccess op old new → SetsChannelAccess (undo_channel op old) new old
undoes_channel op old new v s =
    let again : old ≡ changed (undo_change op.change old) new =
    two old v.two ∙ back op.change old v ∙ ap (changed (undo_change op.change old)) (sym (only_changed op.change old new s.made)) in record {
      accepted = accepts_undo op.change old v;
      made = subst (ChangesAccess (undo_change op.change old) new) (sym again) (changes_access (undo_change op.change old) new);
    }

-- bits 5:4 of a limit are 0
small : (n : ℕ) → n % 16 % 64 < 16
small n = omega arith

plain_undo : (change : ChannelChange) (reply : List ℕ) → is_plain_change (undo_change change reply)
plain_undo (Access access) reply = tt
plain_undo (Limit limit) reply = small _
plain_undo (Both access limit) reply = small _

-- the inverse of an operation
made_channel : (op made : SetChannelAccess) (reply : List ℕ) → words.inverse op reply ≡ Some made → undo_channel op reply ≡ made
made_channel op made reply is = (made_where (length reply == 2) (undo_channel op reply) made is).1

-- ---- the kind

pub kind_laws : KindLaws words
kind_laws = record {
  set_short = λ op. omega arith;
  invertible = λ op reply. some_where (length reply == 2) (undo_channel op reply) _ (λ is. (tested_same _ _ is, tt)) (λ h. same_tested _ _ h.0);
  plain = λ op made reply is. subst words.is_plain (made_channel op made reply is) (plain_undo op.change reply);
}

pub record_laws : RecordLaws words record_words
record_laws = record {
  one_proof = IsChannelAccess-prop;
  taken = λ op old new done. tt;
  decides = λ op value. decided op value (is_change op.change) refl;
  refuses = λ op value code is. refused (changed op.change value) code (is_change op.change) is;
  determined = λ op old new other done also. only_changed op.change old new done.made ∙ sym (only_changed op.change old other also.made);
  keeps = λ op old new is_valid done. subst IsChannelAccess (sym (only_changed op.change old new done.made)) (keeps_change op.change old done.accepted is_valid);
  fits = λ op old new done. same_tested (length new) 2 done.made.two;
  replies = λ op value live here is_valid. is_valid.two;
  get_short = λ at value live here is_valid. let long : length value ≡ 2 = is_valid.two in omega arith;
  steady = λ value live other. refl;
  tells = λ value other live is_valid is_other same. same;
  same_record = λ op made value live here is_valid is. ap (λ (o : SetChannelAccess). stored o.channel o.store) (sym (made_channel op made value is));
  undoes = λ op made old new live is_valid done is. subst (λ (o : SetChannelAccess). SetsChannelAccess o new old) (made_channel op made old is) (undoes_channel op old new is_valid done);
}
