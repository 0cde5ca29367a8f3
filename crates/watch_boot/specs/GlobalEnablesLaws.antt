-- The laws of the kind GlobalEnables.
use Rattle.std.proofs.Common.{◌≡◌, ℕ, List, [], ◌∷◌, length, slice_index, ◌==◌, Bool, true, false, if◌then◌else◌, Ok, Err, refl, sym, ◌∙◌, ap, subst, arith}
use Rattle.std.proofs.lemmas.Grind.{same_number_lists, common_steps}
use Rattle.two_wire.specs.Codes.{invalid_data_field}
use Rattle.record_base.specs.declared.key.Key.TheVariants as key
use Rattle.record_base.specs.declared.global_enables.SetGlobalEnables.{SetGlobalEnables}
use Rattle.record_base.specs.Keys.{is_length}
use Rattle.record_base.specs.Meaning.{DecidesValue, IsRefusal}
use Rattle.record_base.specs.InverseLaws.{some_where, made_where, tested_same, same_tested}
use Rattle.record_base.specs.Kind.{KindLaws, RecordLaws}
use Rattle.record_base.specs.RefusalLaws.{refused_field}
use Rattle.record_base.specs.GlobalEnables.{are_enables, AreGlobalEnables}
use Rattle.record_base.specs.PartLaws.{AreGlobalEnables-prop}
use Rattle.watch_boot.specs.GlobalEnables.{SetsEnables, undo_enables, words, record_words}

-- a list of one is its member
one : (xs : List ℕ) → length xs ≡ 1 → xs ≡ slice_index xs 0 ∷ []
one xs h = same_number_lists _ _ h (λ k lt. grind (arith, common_steps))

true_not_false : (b : Bool) → b ≡ true → b ≡ false → ⊥
true_not_false b t f = cc

decided : (op : SetGlobalEnables) (b : Bool) → are_enables op.byte ≡ b → DecidesValue (if b then Ok (op.byte ∷ []) else Err invalid_data_field) (SetsEnables op)
decided op true is = record { unreserved = is; all = refl }
decided op false is = λ new s. true_not_false (are_enables op.byte) s.unreserved is

refused : (made : List ℕ) (code : ℕ) (b : Bool) → (if b then Ok made else Err invalid_data_field) ≡ Err code → IsRefusal code
refused made code true is = cc
refused made code false is = refused_field code (Err invalid_data_field) refl is

keeps_enables : (op : SetGlobalEnables) (new : List ℕ) → SetsEnables op new → AreGlobalEnables new
keeps_enables op new s = subst AreGlobalEnables (sym s.all) (record { one = refl; unreserved = s.unreserved })

-- what a valid value shows is set again
undoes_enables : (old : List ℕ) → AreGlobalEnables old → SetsEnables (undo_enables old) old
undoes_enables old v = record { unreserved = v.unreserved; all = one old v.one }

-- ---- the kind

pub kind_laws : KindLaws words
kind_laws = record {
  set_short = λ op. omega arith;
  invertible = λ op reply. some_where (length reply == 1) (undo_enables reply) _ (λ is. (tested_same _ _ is, tt)) (λ h. same_tested _ _ h.0);
  plain = λ op made reply is. tt;
}

pub record_laws : RecordLaws words record_words
record_laws = record {
  one_proof = AreGlobalEnables-prop;
  taken = λ op old new done. tt;
  decides = λ op value. decided op (are_enables op.byte) refl;
  refuses = λ op value code is. refused (op.byte ∷ []) code (are_enables op.byte) is;
  determined = λ op old new other done also. done.all ∙ sym also.all;
  keeps = λ op old new is_valid done. keeps_enables op new done;
  fits = λ op old new done. ap (λ (xs : List ℕ). is_length key.GlobalEnables (length xs)) done.all;
  replies = λ op value live here is_valid. is_valid.one;
  get_short = λ alone value live here is_valid. let one_byte : length value ≡ 1 = is_valid.one in omega arith;
  steady = λ value live other. refl;
  tells = λ value other live is_valid is_other same. same;
  same_record = λ op made value live here is_valid is. refl;
  undoes = λ op made old new live is_valid done is.
      subst (λ (o : SetGlobalEnables). SetsEnables o old) (made_where (length old == 1) (undo_enables old) made is).1 (undoes_enables old is_valid);
}
