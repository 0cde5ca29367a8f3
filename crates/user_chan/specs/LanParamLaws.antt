-- The laws of the kind LanParam.
use Rattle.std.proofs.Common.{◌≡◌, ℕ, ◌/◌, ◌%◌, ◌<◌, ◌≤◌, List, [], ◌∷◌, length, slice_index, ◌==◌, Bool, true, false, IsTrue, if◌then◌else◌, Ok, Err, Some, refl, sym, ◌∙◌, ap, subst, arith, lit≤}
use Rattle.two_wire.specs.Codes.{invalid_data_field}
use Rattle.record_base.specs.declared.key.Key.TheVariants as key
use Rattle.record_base.specs.declared.lan_parameter.LanAddress.TheVariants.{Ip, SubnetMask, DefaultGateway}
use Rattle.record_base.specs.declared.lan_parameter.LanParameter.{LanParameter}
use Rattle.record_base.specs.declared.lan_parameter.LanParameter.TheVariants as parameter
use Rattle.record_base.specs.declared.lan_parameter.Ipv4Address.{Ipv4Address}
use Rattle.record_base.specs.declared.lan_parameter.VlanBytes.{VlanBytes}
use Rattle.record_base.specs.declared.lan_parameter.LanChange.{LanChange}
use Rattle.record_base.specs.declared.lan_parameter.LanChange.TheVariants.{Address, AddressSource, Vlan}
use Rattle.record_base.specs.declared.lan_parameter.SetLanParam.{SetLanParam}
use Rattle.record_base.specs.Keys.{is_length}
use Rattle.record_base.specs.Meaning.{DecidesValue, IsRefusal}
use Rattle.record_base.specs.MaskLaws.{both_true, both}
use Rattle.record_base.specs.InverseLaws.{some_where, made_where, tested_same, same_tested}
use Rattle.record_base.specs.Kind.{KindLaws, RecordLaws}
use Rattle.record_base.specs.RefusalLaws.{refused_field}
use Rattle.record_base.specs.Vlan.{vlan_high}
use Rattle.record_base.specs.Lan.{lan_selector, lan_parameter_at, lan_length, address_bytes, changed_parameter, IsLanParam}
use Rattle.record_base.specs.LanItems.{parameter_on}
use Rattle.record_base.specs.LanLaws.{IsLanParam-prop}
use Rattle.record_base.specs.AttributeRangeLaws.{le_true, true_le}
use Rattle.user_chan.specs.CommonLaws.{one, two, four, true_not_false}
use Rattle.user_chan.specs.LanParam.{same_parameter, is_change, HasAddress, HasSource, HasVlan, HasChange, value_after, SetsLanParam, is_taken, lan_view, lan_reply_length, undo_change, undo_lan, is_plain_change, words, record_words}

-- ---- parameters

-- the number of a parameter finds the parameter
found_at : (a : LanParameter) → lan_parameter_at (lan_selector a) ≡ Some a
found_at (parameter.Address Ip) = refl
found_at (parameter.Address SubnetMask) = refl
found_at (parameter.Address DefaultGateway) = refl
found_at parameter.AddressSource = refl
found_at parameter.Vlan = refl

same_found : (a b : LanParameter) → Some a ≡ Some b → a ≡ b
same_found a b h = cc

-- parameters of the same number are the same
pub exact_parameter : (a b : LanParameter) → same_parameter a b ≡ true → a ≡ b
exact_parameter a b h = same_found a b (sym (found_at a) ∙ ap lan_parameter_at (tested_same _ _ h) ∙ found_at b)

pub same_self : (a : LanParameter) → same_parameter a a ≡ true
same_self (parameter.Address Ip) = refl
same_self (parameter.Address SubnetMask) = refl
same_self (parameter.Address DefaultGateway) = refl
same_self parameter.AddressSource = refl
same_self parameter.Vlan = refl

-- ---- values

-- to clear the ignored bits twice is to clear them once
high_again : (byte : ℕ) → vlan_high (vlan_high byte) ≡ vlan_high byte
high_again byte = omega arith

-- ---- what a Set makes

pairs : (a b c d : ℕ) → a ≡ c → b ≡ d → a ∷ b ∷ [] ≡ c ∷ d ∷ []
pairs a b c d p q i = p i ∷ q i ∷ []

four_bits : (n byte : ℕ) → n % 16 ≡ byte % 16 → n < 16 → n ≡ byte % 16
four_bits n byte same small = omega arith

five_bits : (n byte : ℕ) → n / 128 ≡ byte / 128 → n % 16 ≡ byte % 16 → n / 16 % 8 ≡ 0 → n ≡ vlan_high byte
five_bits n byte top low none = omega arith

has_top : (byte : ℕ) → vlan_high byte / 128 ≡ byte / 128
has_top byte = omega arith

has_low : (byte : ℕ) → vlan_high byte % 16 ≡ byte % 16
has_low byte = omega arith

has_none : (byte : ℕ) → vlan_high byte / 16 % 8 ≡ 0
has_none byte = omega arith

source_low : (byte : ℕ) → byte % 16 % 16 ≡ byte % 16
source_low byte = omega arith

small_source : (n : ℕ) → n % 16 < 16
small_source n = omega arith

-- the relation holds of the function's value, and of no other
has_change : (c : LanChange) → HasChange c (value_after c)
has_change (Address which address) = record { four = refl; first = refl; second = refl; third = refl; fourth = refl }
has_change (AddressSource byte) = record { one = refl; source = source_low byte; no_others = small_source byte }
has_change (Vlan vlan) = record { two = refl; low = refl; enabled = has_top vlan.high; high = has_low vlan.high; no_others = has_none vlan.high }

only_address : (address : Ipv4Address) (value : List ℕ) → HasAddress address value → value ≡ address_bytes address
only_address address value has = four value has.four ∙ (λ i. has.first i ∷ has.second i ∷ has.third i ∷ has.fourth i ∷ [])

only_source : (byte : ℕ) (value : List ℕ) → HasSource byte value → value ≡ byte % 16 ∷ []
only_source byte value has = one value has.one ∙ ap (λ (n : ℕ). n ∷ []) (four_bits (slice_index value 0) byte has.source has.no_others)

only_vlan : (vlan : VlanBytes) (value : List ℕ) → HasVlan vlan value → value ≡ vlan.low ∷ vlan_high vlan.high ∷ []
only_vlan vlan value has = two value has.two ∙ pairs _ _ _ _ has.low (five_bits (slice_index value 1) vlan.high has.enabled has.high has.no_others)

only_change : (c : LanChange) (value : List ℕ) → HasChange c value → value ≡ value_after c
only_change (Address which address) value has = only_address address value has
only_change (AddressSource byte) value has = only_source byte value has
only_change (Vlan vlan) value has = only_vlan vlan value has

decided : (p : LanParameter) (op : SetLanParam) (old : List ℕ) (b : Bool) → is_taken p op.change ≡ b → DecidesValue (if b then Ok (value_after op.change) else Err invalid_data_field) (SetsLanParam p op old)
decided p op old true is = let tests = both_true _ _ is in record { of_it = tests.0; accepted = tests.1; made = has_change op.change }
decided p op old false is = λ new s. true_not_false (is_taken p op.change) (both _ _ s.of_it s.accepted) is

refused : (made : List ℕ) (code : ℕ) (b : Bool) → (if b then Ok made else Err invalid_data_field) ≡ Err code → IsRefusal code
refused made code true is = cc
refused made code false is = refused_field code (Err invalid_data_field) refl is

-- the parameter can have the value after a change
keeps_change : (c : LanChange) → is_change c ≡ true → IsLanParam (changed_parameter c) (value_after c)
keeps_change (Address which address) is = record { long = refl; body = tt }
keeps_change (AddressSource byte) is = record { long = refl; body = true_le _ _ is }
keeps_change (Vlan vlan) is = record { long = refl; body = high_again vlan.high }

keeps_param : (p : LanParameter) (op : SetLanParam) (old new : List ℕ) → SetsLanParam p op old new → IsLanParam p new
keeps_param p op old new s =
    subst (IsLanParam p) (sym (only_change op.change new s.made)) (subst (λ (q : LanParameter). IsLanParam q (value_after op.change)) (exact_parameter _ _ s.of_it) (keeps_change op.change s.accepted))

-- a new value is as long as the parameter's
fits_change : (c : LanChange) → IsTrue (length (value_after c) == lan_length (changed_parameter c))
fits_change (Address which address) = refl
fits_change (AddressSource byte) = refl
fits_change (Vlan vlan) = refl

-- ---- replies

most_four : (p : LanParameter) → lan_length p ≤ 4
most_four (parameter.Address which) = lit≤ tt
most_four parameter.AddressSource = lit≤ tt
most_four parameter.Vlan = lit≤ tt

view_length : (p : LanParameter) (value : List ℕ) → IsLanParam p value → length (lan_view value) ≡ lan_reply_length p
view_length p value v = let long : length value ≡ lan_length p = v.long in omega arith

short_reply : (p : LanParameter) (value : List ℕ) → IsLanParam p value → length (lan_view value) ≤ 24
short_reply p value v = let most = most_four p in let long : length value ≡ lan_length p = v.long in omega arith

short_unset : (op : SetLanParam) → 0 ≤ 24
short_unset op = omega arith

-- ---- what an undo brings back

-- the inverse is on the same parameter
same_param : (c : LanChange) (reply : List ℕ) → changed_parameter (undo_change c reply) ≡ changed_parameter c
same_param (Address which address) reply = refl
same_param (AddressSource byte) reply = refl
same_param (Vlan vlan) reply = refl

-- an old source is four bits
source_again : (n : ℕ) → n ≤ 4 → n % 16 % 16 ≤ 4
source_again n least = omega arith

same_source : (n : ℕ) → n ≤ 4 → n ≡ n % 16 % 16
same_source n least = omega arith

same_high : (n : ℕ) → vlan_high n ≡ n → n ≡ vlan_high (vlan_high n)
same_high n h = sym h ∙ sym (high_again n)

accepts_undo : (c : LanChange) (old : List ℕ) → IsLanParam (changed_parameter c) old → is_change (undo_change c (lan_view old)) ≡ true
accepts_undo (Address which address) old v = refl
accepts_undo (AddressSource byte) old v = le_true _ _ (source_again _ v.body)
accepts_undo (Vlan vlan) old v = refl

back : (c : LanChange) (old : List ℕ) → IsLanParam (changed_parameter c) old → old ≡ value_after (undo_change c (lan_view old))
back (Address which address) old v = four old v.long
back (AddressSource byte) old v = one old v.long ∙ ap (λ (n : ℕ). n ∷ []) (same_source _ v.body)
back (Vlan vlan) old v = two old v.long ∙ pairs _ _ _ _ refl (same_high _ v.body)

undoes_change : (op : SetLanParam) (old new : List ℕ) → IsLanParam (changed_parameter op.change) old → SetsLanParam (changed_parameter op.change) (undo_lan op (lan_view old)) new old
undoes_change op old new v = record {
  of_it = ap (λ (q : LanParameter). same_parameter q (changed_parameter op.change)) (same_param op.change (lan_view old)) ∙ same_self (changed_parameter op.change);
  accepted = accepts_undo op.change old v;
  made = subst (HasChange (undo_change op.change (lan_view old))) (sym (back op.change old v)) (has_change (undo_change op.change (lan_view old)));
}

undoes_param : (p : LanParameter) (op : SetLanParam) (old new : List ℕ) → IsLanParam p old → SetsLanParam p op old new → SetsLanParam p (undo_lan op (lan_view old)) new old
undoes_param p op old new v s =
    let same : changed_parameter op.change ≡ p = exact_parameter _ _ s.of_it in
    subst (λ (q : LanParameter). SetsLanParam q (undo_lan op (lan_view old)) new old) same (undoes_change op old new (subst (λ (q : LanParameter). IsLanParam q old) (sym same) v))

-- the inverse sets no ignored bit
plain_change : (c : LanChange) (reply : List ℕ) → is_plain_change (undo_change c reply)
plain_change (Address which address) reply = tt
plain_change (AddressSource byte) reply = small_source _
plain_change (Vlan vlan) reply = high_again _

-- the inverse of an operation
made_lan : (op made : SetLanParam) (reply : List ℕ) → words.inverse op reply ≡ Some made → undo_lan op reply ≡ made
made_lan op made reply is = (made_where (length reply == lan_reply_length (changed_parameter op.change)) (undo_lan op reply) made is).1

-- ---- the kind

pub kind_laws : KindLaws words
kind_laws = record {
  set_short = short_unset;
  invertible = λ op reply. some_where (length reply == lan_reply_length (changed_parameter op.change)) (undo_lan op reply) _ (λ is. (tested_same _ _ is, tt)) (λ h. same_tested _ _ h.0);
  plain = λ op made reply is. subst words.is_plain (made_lan op made reply is) (plain_change op.change reply);
}

pub record_laws : (p : LanParameter) → RecordLaws words (record_words p)
record_laws p = record {
  one_proof = IsLanParam-prop p;
  taken = λ op old new done. done.of_it;
  decides = λ op value. decided p op value (is_taken p op.change) refl;
  refuses = λ op value code is. refused (value_after op.change) code (is_taken p op.change) is;
  determined = λ op old new other done also. only_change op.change new done.made ∙ sym (only_change op.change other also.made);
  keeps = λ op old new is_valid done. keeps_param p op old new done;
  fits = λ op old new done. subst (λ (n : List ℕ). IsTrue (is_length (key.LanParam (parameter_on op.channel (changed_parameter op.change))) (length n))) (sym (only_change op.change new done.made)) (fits_change op.change);
  replies = λ op value live here is_valid. view_length p value is_valid ∙ ap lan_reply_length (sym (exact_parameter _ _ here));
  get_short = λ on value live here is_valid. short_reply p value is_valid;
  steady = λ value live other. refl;
  tells = λ value other live is_valid is_other same. same;
  same_record = λ op made value live here is_valid is. ap (λ (o : SetLanParam). parameter_on o.channel (changed_parameter o.change)) (sym (made_lan op made (lan_view value) is)) ∙ ap (parameter_on op.channel) (same_param op.change (lan_view value));
  undoes = λ op made old new live is_valid done is. subst (λ (o : SetLanParam). SetsLanParam p o new old) (made_lan op made (lan_view old) is) (undoes_param p op old new is_valid done);
}
