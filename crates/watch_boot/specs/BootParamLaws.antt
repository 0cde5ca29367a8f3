-- The laws of the kind BootParam.
use Rattle.std.proofs.Common.{◌≡◌, ℕ, zero, suc, ◌+◌, ◌-◌, ◌%◌, ◌^◌, ◌<◌, ◌≤◌, min, bit_and, bit_xor, List, [], ◌∷◌, drop, length, slice_index, ◌==◌, Bool, true, false, IsTrue, if◌then◌else◌, Ok, Err, Some, refl, sym, ◌∙◌, ap, subst, arith, lit≤}
use Rattle.std.specs.Int.{bit_at}
use Rattle.std.proofs.lemmas.Grind.{same_number_lists, common_steps}
use Rattle.std.proofs.lemmas.Nat.{and_mask}
use Rattle.std.proofs.lemmas.Nat.Bits.{bit_at_and, bit_at_xor, bit_at_ones, bit_at-lt, same_from_bits_below}
use Rattle.two_wire.specs.Codes.{invalid_data_field}
use Rattle.record_base.specs.declared.key.Key.TheVariants as key
use Rattle.record_base.specs.declared.boot_param.BootParameter.{BootParameter}
use Rattle.record_base.specs.declared.boot_param.BootParameter.TheVariants as parameter
use Rattle.record_base.specs.declared.boot_param.BootFlags.{BootFlags}
use Rattle.record_base.specs.declared.boot_param.BootChange.{BootChange}
use Rattle.record_base.specs.declared.boot_param.BootChange.TheVariants.{MarkAlone, ValidBitClearing, InfoAcknowledge, Flags}
use Rattle.record_base.specs.declared.boot_param.SetBootParam.{SetBootParam}
use Rattle.record_base.specs.Keys.{is_length}
use Rattle.record_base.specs.Masks.{has}
use Rattle.record_base.specs.Meaning.{DecidesValue, IsRefusal}
use Rattle.record_base.specs.InverseLaws.{some_where, made_where, tested_same, same_tested}
use Rattle.record_base.specs.Kind.{KindLaws, RecordLaws}
use Rattle.record_base.specs.RefusalLaws.{refused_field}
use Rattle.record_base.specs.BootParam.{selector, parameter_of, flag_bytes, boot_length, IsBootParam}
use Rattle.record_base.specs.PartLaws.{IsBootParam-prop}
use Rattle.watch_boot.specs.BootParam.{same_parameter, IsMasked, mark_of, body_of, HasFlags, ChangesParameter, SetsBootParam, masked_byte, body_after, marked, boot_view, reply_length, undo_change, undo_boot, is_plain_change, words, record_words}

-- ---- parameters

-- parameters of the same number are the same
pub exact_parameter : (a b : BootParameter) → same_parameter a b ≡ true → a ≡ b
exact_parameter parameter.ValidBitClearing parameter.ValidBitClearing h = refl
exact_parameter parameter.InfoAcknowledge parameter.InfoAcknowledge h = refl
exact_parameter parameter.Flags parameter.Flags h = refl
exact_parameter _ _ h = cc

pub same_self : (a : BootParameter) → same_parameter a a ≡ true
same_self parameter.ValidBitClearing = refl
same_self parameter.InfoAcknowledge = refl
same_self parameter.Flags = refl

-- ---- masked bits

place_test : (a b m : ℕ) → a < 2 → b < 2 → m < 2 → ((a + min ((a + b) % 2) m) % 2 == 1) ≡ (if m == 1 then b == 1 else a == 1)
place_test zero zero zero p q r = refl
place_test zero (suc zero) zero p q r = refl
place_test (suc zero) zero zero p q r = refl
place_test (suc zero) (suc zero) zero p q r = refl
place_test zero zero (suc zero) p q r = refl
place_test zero (suc zero) (suc zero) p q r = refl
place_test (suc zero) zero (suc zero) p q r = refl
place_test (suc zero) (suc zero) (suc zero) p q r = refl
place_test (suc (suc a)) b m p q r = absurd (omega arith)
place_test zero (suc (suc b)) m p q r = absurd (omega arith)
place_test (suc zero) (suc (suc b)) m p q r = absurd (omega arith)
place_test zero zero (suc (suc m)) p q r = absurd (omega arith)
place_test zero (suc zero) (suc (suc m)) p q r = absurd (omega arith)
place_test (suc zero) zero (suc (suc m)) p q r = absurd (omega arith)
place_test (suc zero) (suc zero) (suc (suc m)) p q r = absurd (omega arith)

min_one : (b : ℕ) → b < 2 → min b 1 ≡ b
min_one b small = omega arith

-- the low eight bits of a number
bit_below : (n place : ℕ) → place < 8 → bit_at (n % 2 ^ 8) place ≡ bit_at n place
bit_below n place lt =
    ap (λ (m : ℕ). bit_at m place) (sym (and_mask n 8)) ∙ bit_at_and n (2 ^ 8 - 1) place ∙ ap (min (bit_at n place)) (bit_at_ones 8 place lt) ∙ min_one _ (bit_at-lt n place)

has_masked : (mask bits old place : ℕ) → place < 8 → has (masked_byte mask bits old) place ≡ (if has mask place then has bits place else has old place)
has_masked mask bits old place lt =
    ap (λ (n : ℕ). n == 1)
    (bit_below (bit_xor old (bit_and (bit_xor old bits) mask)) place lt
    ∙ bit_at_xor old (bit_and (bit_xor old bits) mask) place
    ∙ ap (λ (n : ℕ). (bit_at old place + n) % 2) (bit_at_and (bit_xor old bits) mask place ∙ ap (λ (n : ℕ). min n (bit_at mask place)) (bit_at_xor old bits place)))
    ∙ place_test (bit_at old place) (bit_at bits place) (bit_at mask place) (bit_at-lt old place) (bit_at-lt bits place) (bit_at-lt mask place)

masked_is : (mask bits old : ℕ) → IsMasked mask bits old (masked_byte mask bits old)
masked_is mask bits old = record {
  byte = omega arith;
  written = λ place lt there. has_masked mask bits old place lt ∙ ap (λ (b : Bool). if b then has bits place else has old place) there;
  others = λ place lt out. has_masked mask bits old place lt ∙ ap (λ (b : Bool). if b then has bits place else has old place) out;
}

same_bit : (a b : ℕ) → a < 2 → b < 2 → (a == 1) ≡ (b == 1) → a ≡ b
same_bit zero zero small also same = refl
same_bit zero (suc zero) small also same = cc
same_bit zero (suc (suc b)) small also same = absurd (omega arith)
same_bit (suc zero) zero small also same = cc
same_bit (suc zero) (suc zero) small also same = refl
same_bit (suc zero) (suc (suc b)) small also same = absurd (omega arith)
same_bit (suc (suc a)) b small also same = absurd (omega arith)

one_place : (mask bits old a b place : ℕ) → IsMasked mask bits old a → IsMasked mask bits old b → place < 8 → (t : Bool) → has mask place ≡ t → has a place ≡ has b place
one_place mask bits old a b place p q lt true is = p.written place lt is ∙ sym (q.written place lt is)
one_place mask bits old a b place p q lt false is = p.others place lt is ∙ sym (q.others place lt is)

-- one byte has these bits
masked_same : (mask bits old a b : ℕ) → IsMasked mask bits old a → IsMasked mask bits old b → a ≡ b
masked_same mask bits old a b p q =
    same_from_bits_below 8 a b p.byte q.byte (λ place lt. same_bit _ _ (bit_at-lt a place) (bit_at-lt b place) (one_place mask bits old a b place p q lt (has mask place) refl))

-- the old byte comes back through the same mask
masked_back : (mask bits old new : ℕ) → old < 256 → IsMasked mask bits old new → IsMasked mask old new old
masked_back mask bits old new small m = record {
  byte = small;
  written = λ place lt there. refl;
  others = λ place lt out. sym (m.others place lt out);
}

-- ---- values

one : (xs : List ℕ) → length xs ≡ 1 → xs ≡ slice_index xs 0 ∷ []
one xs h = same_number_lists _ _ h (λ k lt. grind (arith, common_steps))

two : (xs : List ℕ) → length xs ≡ 2 → xs ≡ slice_index xs 0 ∷ slice_index xs 1 ∷ []
two xs h = same_number_lists _ _ h (λ k lt. grind (arith, common_steps))

five : (xs : List ℕ) → length xs ≡ 5 → xs ≡ slice_index xs 0 ∷ slice_index xs 1 ∷ slice_index xs 2 ∷ slice_index xs 3 ∷ slice_index xs 4 ∷ []
five xs h = same_number_lists _ _ h (λ k lt. grind (arith, common_steps))

six : (xs : List ℕ) → length xs ≡ 6 → xs ≡ slice_index xs 0 ∷ slice_index xs 1 ∷ slice_index xs 2 ∷ slice_index xs 3 ∷ slice_index xs 4 ∷ slice_index xs 5 ∷ []
six xs h = same_number_lists _ _ h (λ k lt. grind (arith, common_steps))

-- a value is its mark and its data
whole : (p : BootParameter) (value : List ℕ) → IsBootParam p value → value ≡ slice_index value 0 ∷ body_of p value
whole parameter.ValidBitClearing value v = two value v.long
whole parameter.InfoAcknowledge value v = two value v.long
whole parameter.Flags value v = six value v.long

mark_small : (b : Bool) → mark_of b ≤ 1
mark_small true = omega arith
mark_small false = omega arith

-- ---- what a Set makes

bits_again : (byte : ℕ) → byte % 32 % 32 ≡ byte % 32
bits_again byte = omega arith

five_bits : (byte : ℕ) → byte % 32 < 32
five_bits byte = omega arith

low_five : (n byte : ℕ) → n % 32 ≡ byte % 32 → n < 32 → n ≡ byte % 32
low_five n byte same small = omega arith

-- the relation holds of the function's data, and of no others
changed_after : (c : BootChange) (old : List ℕ) → ChangesParameter c old (body_after c old)
changed_after (MarkAlone p) old = refl
changed_after (ValidBitClearing byte) old = record { one = refl; bits = bits_again byte; no_others = five_bits byte }
changed_after (InfoAcknowledge masked) old = (refl, masked_is masked.mask masked.bits (slice_index old 1))
changed_after (Flags flags) old = record { five = refl; validity = refl; device = refl; console = refl; overrides = refl; instance = refl }

only_flags : (flags : BootFlags) (body : List ℕ) → HasFlags flags body → body ≡ flag_bytes flags
only_flags flags body has = five body has.five ∙ (λ i. has.validity i ∷ has.device i ∷ has.console i ∷ has.overrides i ∷ has.instance i ∷ [])

only_after : (c : BootChange) (old body : List ℕ) → ChangesParameter c old body → body ≡ body_after c old
only_after (MarkAlone p) old body s = s
only_after (ValidBitClearing byte) old body s = one body s.one ∙ ap (λ (n : ℕ). n ∷ []) (low_five (slice_index body 0) byte s.bits s.no_others)
only_after (InfoAcknowledge masked) old body s =
    one body s.0 ∙ ap (λ (n : ℕ). n ∷ []) (masked_same masked.mask masked.bits (slice_index old 1) _ _ s.1 (masked_is masked.mask masked.bits (slice_index old 1)))
only_after (Flags flags) old body s = only_flags flags body s

true_not_false : (b : Bool) → b ≡ true → b ≡ false → ⊥
true_not_false b t f = cc

decided : (p : BootParameter) (op : SetBootParam) (old : List ℕ) (b : Bool) → same_parameter (parameter_of op.change) p ≡ b
    → DecidesValue (if b then Ok (mark_of op.invalid ∷ body_after op.change old) else Err invalid_data_field) (SetsBootParam p op old)
decided p op old true is = record { of_it = is; body = body_after op.change old; all = refl; changed = changed_after op.change old }
decided p op old false is = λ new s. true_not_false (same_parameter (parameter_of op.change) p) s.of_it is

refused : (made : List ℕ) (code : ℕ) (b : Bool) → (if b then Ok made else Err invalid_data_field) ≡ Err code → IsRefusal code
refused made code true is = cc
refused made code false is = refused_field code (Err invalid_data_field) refl is

-- a change makes one body
same_body : (c : BootChange) (old a b : List ℕ) → ChangesParameter c old a → ChangesParameter c old b → a ≡ b
same_body c old a b s t = only_after c old a s ∙ sym (only_after c old b t)

kept_mark : (p : BootParameter) (invalid : Bool) (old : List ℕ) → IsBootParam p old → IsBootParam p (mark_of invalid ∷ body_of p old)
kept_mark parameter.ValidBitClearing invalid old v = record { long = refl; mark = mark_small invalid; body = v.body }
kept_mark parameter.InfoAcknowledge invalid old v = record { long = refl; mark = mark_small invalid; body = v.body }
kept_mark parameter.Flags invalid old v = record { long = refl; mark = mark_small invalid; body = tt }

-- a change keeps a value valid
keeps_change : (c : BootChange) (invalid : Bool) (old body : List ℕ) → IsBootParam (parameter_of c) old → ChangesParameter c old body → IsBootParam (parameter_of c) (mark_of invalid ∷ body)
keeps_change (MarkAlone p) invalid old body v s = subst (λ (b : List ℕ). IsBootParam p (mark_of invalid ∷ b)) (sym s) (kept_mark p invalid old v)
keeps_change (ValidBitClearing byte) invalid old body v s = record { long = ap suc s.one; mark = mark_small invalid; body = s.no_others }
keeps_change (InfoAcknowledge masked) invalid old body v s = record { long = ap suc s.0; mark = mark_small invalid; body = s.1.byte }
keeps_change (Flags flags) invalid old body v s = record { long = ap suc s.five; mark = mark_small invalid; body = tt }

keeps_param : (p : BootParameter) (op : SetBootParam) (old new : List ℕ) → IsBootParam p old → SetsBootParam p op old new → IsBootParam p new
keeps_param p op old new v s =
    let same : parameter_of op.change ≡ p = exact_parameter _ _ s.of_it in
    subst (IsBootParam p) (sym s.all)
    (subst (λ (q : BootParameter). IsBootParam q (mark_of op.invalid ∷ s.body)) same (keeps_change op.change op.invalid old s.body (subst (λ (q : BootParameter). IsBootParam q old) (sym same) v) s.changed))

mark_fits : (p : BootParameter) (old : List ℕ) → IsTrue (suc (length (body_of p old)) == boot_length p)
mark_fits parameter.ValidBitClearing old = refl
mark_fits parameter.InfoAcknowledge old = refl
mark_fits parameter.Flags old = refl

-- a new value is as long as the parameter's
fits_change : (c : BootChange) (old body : List ℕ) → ChangesParameter c old body → IsTrue (suc (length body) == boot_length (parameter_of c))
fits_change (MarkAlone p) old body s = subst (λ (b : List ℕ). IsTrue (suc (length b) == boot_length p)) (sym s) (mark_fits p old)
fits_change (ValidBitClearing byte) old body s = ap (λ (n : ℕ). suc n == 2) s.one
fits_change (InfoAcknowledge masked) old body s = ap (λ (n : ℕ). suc n == 2) s.0
fits_change (Flags flags) old body s = ap (λ (n : ℕ). suc n == 6) s.five

-- ---- replies

pub view_length : (p : BootParameter) (value : List ℕ) → length (boot_view p value) ≡ reply_length p
view_length parameter.ValidBitClearing value = refl
view_length parameter.InfoAcknowledge value = refl
view_length parameter.Flags value = refl

short_reply : (p : BootParameter) (value : List ℕ) → length (boot_view p value) ≤ 24
short_reply parameter.ValidBitClearing value = lit≤ tt
short_reply parameter.InfoAcknowledge value = lit≤ tt
short_reply parameter.Flags value = lit≤ tt

short_unset : (op : SetBootParam) → 0 ≤ 24
short_unset op = omega arith

mark_told : (p : BootParameter) (a b : ℕ) → a ≤ 1 → b ≤ 1 → marked (a == 1) p ≡ marked (b == 1) p → a ≡ b
mark_told p zero zero small also same = refl
mark_told p zero (suc zero) small also same = absurd (let said : selector p ≡ 128 + selector p = same in omega arith)
mark_told p (suc zero) zero small also same = absurd (let said : 128 + selector p ≡ selector p = same in omega arith)
mark_told p (suc zero) (suc zero) small also same = refl
mark_told p zero (suc (suc b)) small also same = absurd (omega arith)
mark_told p (suc zero) (suc (suc b)) small also same = absurd (omega arith)
mark_told p (suc (suc a)) b small also same = absurd (omega arith)

body_told : (p : BootParameter) (value other : List ℕ) → boot_view p value ≡ boot_view p other → body_of p value ≡ body_of p other
body_told parameter.ValidBitClearing value other same = ap (drop 2) same
body_told parameter.InfoAcknowledge value other same = ap (drop 3) same
body_told parameter.Flags value other same = ap (drop 2) same

-- a reply determines the value
told_value : (p : BootParameter) (value other : List ℕ) → IsBootParam p value → IsBootParam p other → boot_view p value ≡ boot_view p other → value ≡ other
told_value p value other v w same =
    whole p value v
    ∙ ap (λ (n : ℕ). n ∷ body_of p value) (mark_told p _ _ v.mark w.mark (ap (λ (xs : List ℕ). slice_index xs 1) same))
    ∙ ap (λ (b : List ℕ). slice_index other 0 ∷ b) (body_told p value other same)
    ∙ sym (whole p other w)

-- ---- what an undo brings back

mark_back : (p : BootParameter) (m : ℕ) → m ≤ 1 → m ≡ mark_of (has (marked (m == 1) p) 7)
mark_back parameter.ValidBitClearing zero small = refl
mark_back parameter.InfoAcknowledge zero small = refl
mark_back parameter.Flags zero small = refl
mark_back parameter.ValidBitClearing (suc zero) small = refl
mark_back parameter.InfoAcknowledge (suc zero) small = refl
mark_back parameter.Flags (suc zero) small = refl
mark_back p (suc (suc m)) small = absurd (omega arith)

-- the inverse is on the same parameter
same_param : (c : BootChange) (reply : List ℕ) → parameter_of (undo_change c reply) ≡ parameter_of c
same_param (MarkAlone p) reply = refl
same_param (ValidBitClearing byte) reply = refl
same_param (InfoAcknowledge masked) reply = refl
same_param (Flags flags) reply = refl

body_again : (p : BootParameter) (mark : ℕ) (old : List ℕ) → body_of p old ≡ body_of p (mark ∷ body_of p old)
body_again parameter.ValidBitClearing mark old = refl
body_again parameter.InfoAcknowledge mark old = refl
body_again parameter.Flags mark old = refl

changed_back : (c : BootChange) (mark : ℕ) (old body : List ℕ) → IsBootParam (parameter_of c) old → ChangesParameter c old body
    → ChangesParameter (undo_change c (boot_view (parameter_of c) old)) (mark ∷ body) (body_of (parameter_of c) old)
changed_back (MarkAlone p) mark old body v s = body_again p mark old ∙ ap (λ (b : List ℕ). body_of p (mark ∷ b)) (sym s)
changed_back (ValidBitClearing byte) mark old body v s = record { one = refl; bits = sym (bits_again (slice_index old 1)); no_others = v.body }
changed_back (InfoAcknowledge masked) mark old body v s = (refl, masked_back masked.mask masked.bits (slice_index old 1) (slice_index body 0) v.body s.1)
changed_back (Flags flags) mark old body v s = record { five = refl; validity = refl; device = refl; console = refl; overrides = refl; instance = refl }

undoes_change : (c : BootChange) (invalid : Bool) (old body : List ℕ) → IsBootParam (parameter_of c) old → ChangesParameter c old body
    → SetsBootParam (parameter_of c) (undo_boot (record { invalid = invalid; change = c }) (boot_view (parameter_of c) old)) (mark_of invalid ∷ body) old
undoes_change c invalid old body v s = record {
  of_it = ap (λ (q : BootParameter). same_parameter q (parameter_of c)) (same_param c (boot_view (parameter_of c) old)) ∙ same_self (parameter_of c);
  body = body_of (parameter_of c) old;
  all = whole (parameter_of c) old v ∙ ap (λ (n : ℕ). n ∷ body_of (parameter_of c) old) (mark_back (parameter_of c) (slice_index old 0) v.mark);
  changed = changed_back c (mark_of invalid) old body v s;
}

undoes_param : (p : BootParameter) (op : SetBootParam) (old new : List ℕ) → IsBootParam p old → SetsBootParam p op old new → SetsBootParam p (undo_boot op (boot_view p old)) new old
undoes_param p op old new v s =
    let same : parameter_of op.change ≡ p = exact_parameter _ _ s.of_it in
    subst (λ (n : List ℕ). SetsBootParam p (undo_boot op (boot_view p old)) n old) (sym s.all)
    (subst (λ (q : BootParameter). SetsBootParam q (undo_boot op (boot_view q old)) (mark_of op.invalid ∷ s.body) old) same
    (undoes_change op.change op.invalid old s.body (subst (λ (q : BootParameter). IsBootParam q old) (sym same) v) s.changed))

-- the inverse sets no ignored bit
plain_change : (c : BootChange) (reply : List ℕ) → is_plain_change (undo_change c reply)
plain_change (MarkAlone p) reply = tt
plain_change (ValidBitClearing byte) reply = omega arith
plain_change (InfoAcknowledge masked) reply = tt
plain_change (Flags flags) reply = tt

made_boot : (op made : SetBootParam) (reply : List ℕ) → words.inverse op reply ≡ Some made → undo_boot op reply ≡ made
made_boot op made reply is = (made_where (length reply == reply_length (parameter_of op.change)) (undo_boot op reply) made is).1

-- ---- the kind

pub kind_laws : KindLaws words
kind_laws = record {
  set_short = short_unset;
  invertible = λ op reply. some_where (length reply == reply_length (parameter_of op.change)) (undo_boot op reply) _ (λ is. (tested_same _ _ is, tt)) (λ h. same_tested _ _ h.0);
  plain = λ op made reply is. subst words.is_plain (made_boot op made reply is) (plain_change op.change reply);
}

pub record_laws : (p : BootParameter) → RecordLaws words (record_words p)
record_laws p = record {
  one_proof = IsBootParam-prop p;
  taken = λ op old new done. done.of_it;
  decides = λ op value. decided p op value (same_parameter (parameter_of op.change) p) refl;
  refuses = λ op value code is. refused (mark_of op.invalid ∷ body_after op.change value) code (same_parameter (parameter_of op.change) p) is;
  determined = λ op old new other done also. done.all ∙ ap (λ (b : List ℕ). mark_of op.invalid ∷ b) (same_body op.change old _ _ done.changed also.changed) ∙ sym also.all;
  keeps = λ op old new is_valid done. keeps_param p op old new is_valid done;
  fits = λ op old new done. subst (λ (n : List ℕ). IsTrue (is_length (key.BootParam (parameter_of op.change)) (length n))) (sym done.all) (fits_change op.change old _ done.changed);
  replies = λ op value live here is_valid. view_length p value ∙ ap reply_length (sym (exact_parameter _ _ here));
  get_short = λ other value live here is_valid. short_reply p value;
  steady = λ value live other. refl;
  tells = λ value other live is_valid is_other same. told_value p value other is_valid is_other same;
  same_record = λ op made value live here is_valid is. ap (λ (o : SetBootParam). parameter_of o.change) (sym (made_boot op made (boot_view p value) is)) ∙ same_param op.change (boot_view p value);
  undoes = λ op made old new live is_valid done is. subst (λ (o : SetBootParam). SetsBootParam p o new old) (made_boot op made (boot_view p old) is) (undoes_param p op old new is_valid done);
}
