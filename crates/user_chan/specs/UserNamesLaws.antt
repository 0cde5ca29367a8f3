-- The laws of the kind UserName.
use Rattle.std.proofs.Common.{◌≡◌, ◌≢◌, ℕ, List, length, ◌==◌, Bool, true, false, if◌then◌else◌, Ok, Err, Some, refl, sym, ◌∙◌, ap, subst, arith}
use Rattle.std.proofs.Props.{props}
use Rattle.std.proofs.lemmas.Bool.Decides.{nat_tests}
use Rattle.two_wire.specs.Codes.{invalid_data_field}
use Rattle.record_base.specs.declared.user.SetUserName.{SetUserName}
use Rattle.record_base.specs.Meaning.{DecidesValue, IsRefusal}
use Rattle.record_base.specs.InverseLaws.{some_where, made_where, tested_same, same_tested}
use Rattle.record_base.specs.Kind.{KindLaws, RecordLaws}
use Rattle.record_base.specs.RefusalLaws.{refused_field}
use Rattle.record_base.specs.Numbers.{low_below, user_in}
use Rattle.record_base.specs.NumberLaws.{same_field}
use Rattle.record_base.specs.RequestsLaws.{whole}
use Rattle.record_base.specs.UserSizes.{user_name_size}
use Rattle.user_chan.specs.CommonLaws.{again}
use Rattle.user_chan.specs.UserNames.{nameless, user_of, SetsUserName, shown_name, undo_name, words, record_words}

-- a name is shown whole
pub shown_is : (xs : List ℕ) → length xs ≡ user_name_size → xs ≡ shown_name xs
shown_is xs sized = sym (whole xs user_name_size sized)

-- ---- what a Set makes

not_same : (m n : ℕ) → (m == n) ≡ false → m ≢ n
not_same m n h same = grind (arith, nat_tests)

decided : (op : SetUserName) (b : Bool) → (user_of op == nameless) ≡ b → DecidesValue (if b then Err invalid_data_field else Ok op.name) (SetsUserName op)
decided op true is = λ new s. s.has_name (tested_same _ _ is)
decided op false is = record { has_name = not_same _ _ is; all = refl }

refused : (made : List ℕ) (code : ℕ) (b : Bool) → (if b then Err invalid_data_field else Ok made) ≡ Err code → IsRefusal code
refused made code true is = refused_field code (Err invalid_data_field) refl is
refused made code false is = cc

-- ---- what an undo brings back

undoes_name : (op : SetUserName) (old : List ℕ) → length old ≡ user_name_size → user_of op ≢ nameless → SetsUserName (undo_name op old) old
undoes_name op old long other = record { has_name = λ same. other (sym (again op.user) ∙ same); all = shown_is old long }

same_named : (op : SetUserName) → user_in (user_of op) ≡ user_in op.user
same_named op = same_field (user_in (user_of op)) (user_in op.user) (again op.user)

sized_proofs : (value : List ℕ) → IsProp (length value ≡ user_name_size)
sized_proofs value = hlevel props

-- the inverse of an operation
made_name : (op made : SetUserName) (reply : List ℕ) → words.inverse op reply ≡ Some made → (length reply ≡ user_name_size) × (undo_name op reply ≡ made)
made_name op made reply is = let parts = made_where (length reply == user_name_size) (undo_name op reply) made is in (tested_same _ _ parts.0, parts.1)

-- ---- the kind

pub kind_laws : KindLaws words
kind_laws = record {
  set_short = λ op. omega arith;
  invertible = λ op reply. some_where (length reply == user_name_size) (undo_name op reply) _ (λ is. (tested_same _ _ is, tt)) (λ h. same_tested _ _ h.0);
  plain = λ op made reply is. subst words.is_plain (made_name op made reply is).1 (low_below 6 op.user);
}

pub record_laws : RecordLaws words record_words
record_laws = record {
  one_proof = sized_proofs;
  taken = λ op old new done. tt;
  decides = λ op value. decided op (user_of op == nameless) refl;
  refuses = λ op value code is. refused op.name code (user_of op == nameless) is;
  determined = λ op old new other done also. done.all ∙ sym also.all;
  keeps = λ op old new is_valid done. ap length done.all ∙ op.sized;
  fits = λ op old new done. same_tested (length new) user_name_size (ap length done.all ∙ op.sized);
  replies = λ op value live here is_valid. is_valid;
  get_short = λ user value live here is_valid. let long : length value ≡ user_name_size = is_valid in omega arith;
  steady = λ value live other. refl;
  tells = λ value other live is_valid is_other same. same;
  same_record = λ op made value live here is_valid is. ap (λ (o : SetUserName). user_in o.user) (sym (made_name op made value is).1) ∙ same_named op;
  undoes = λ op made old new live is_valid done is. subst (λ (o : SetUserName). SetsUserName o old) (made_name op made old is).1 (undoes_name op old is_valid done.has_name);
}
