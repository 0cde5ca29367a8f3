-- The registers keep the laws of a family.
use Rattle.std.proofs.Common.{◌≡◌, ℕ, zero, suc, Bool, true, false, if◌then◌else◌, List, [], ◌∷◌, Option, Some, None, refl, sym, ◌∙◌, ap, subst, arith, ◌⊎◌, inl, inr}
use Rattle.std.specs.Prelude.{◌≢◌, ◌==◌, slice_get, slice_set, unwrap_or}
use Rattle.std.proofs.lemmas.Bool.{and_parts, and_from, leb-true, ltb-true, le-leb, lt-ltb, cond_both, false≢true}
use Rattle.std.proofs.lemmas.Option.{same_Some, none-some}
use Rattle.two_wire.specs.Codes.{success, not_present, invalid_data_field}
use Rattle.model_bus.specs.Answered.{Answered}
use Rattle.model_undo.specs.Words.{is_busy}
use Rattle.model_undo.specs.Family.{AllValid, SetsTo}
use Rattle.model_undo.specs.IsFamily.{ShownRecord, IsFamily, IsSingleFamily}
use Rattle.model_undo.proofs.Single.{single_family}
use Rattle.model_undo.specs.Registers.{Halves, Write, Asked, AskGet, AskSet, Board, IsValid, is_valid, written, shown, configuration, back, inverse, inverse_of_high, IsRestorable, replied, get_answer, set_answer, answer, Row, registers}

-- ---- the map

put_back : (r : List Halves) (key : ℕ) (v w : Halves) → slice_get r key ≡ Some v → slice_set (slice_set r key w) key v ≡ r
put_back [] key v w e = absurd (none-some v e)
put_back (x ∷ r) zero v w e = ap (λ (y : Halves). y ∷ r) (sym (same_Some _ _ e))
put_back (x ∷ r) (suc key) v w e = ap (λ (s : List Halves). x ∷ s) (put_back r key v w e)

get_put : (r : List Halves) (key : ℕ) (v w : Halves) → slice_get r key ≡ Some v → slice_get (slice_set r key w) key ≡ Some w
get_put [] key v w e = absurd (none-some v e)
get_put (x ∷ r) zero v w e = refl
get_put (x ∷ r) (suc key) v w e = get_put r key v w e

put_valid : (r : List Halves) (key : ℕ) (w : Halves) → AllValid registers r → IsValid w → AllValid registers (slice_set r key w)
put_valid [] key w valid ok q v e = absurd (none-some v e)
put_valid (x ∷ r) zero w valid ok zero v e = subst IsValid (same_Some _ _ e) ok
put_valid (x ∷ r) zero w valid ok (suc q) v e = valid (suc q) v e
put_valid (x ∷ r) (suc key) w valid ok zero v e = valid zero v e
put_valid (x ∷ r) (suc key) w valid ok (suc q) v e = put_valid r key w (λ q v e. valid (suc q) v e) ok q v e

-- ---- the kinds

-- a half that is written back is what it was
half_back : (o : Option ℕ) (old : ℕ) → unwrap_or (back o old) (unwrap_or o old) ≡ old
half_back None old = refl
half_back (Some x) old = refl

-- both halves are
both_back : (w : Write) (v : Halves) → v ≡ written (record { register = w.register; low = back w.low v.low; high = back w.high v.high }) (written w v)
both_back w v = λ i. record { low = sym (half_back w.low v.low) i; high = sym (half_back w.high v.high) i }

high_back : (w : Write) (v : Halves) → w.low ≡ None → v ≡ written (record { register = w.register; low = None; high = back w.high v.high }) (written w v)
high_back w v none = λ i. record { low = ap (λ (o : Option ℕ). unwrap_or o v.low) (sym none) i; high = sym (half_back w.high v.high) i }

-- what undoes a write, from what a Get shows: it writes back what was written
record IsBack (w to : Write) (v : Halves) : Type 0 where
  register : to.register ≡ w.register
  value : v ≡ written to (written w v)

back_of_high : (w : Write) (v : Halves) (o : Option ℕ) (to : Write) → w.low ≡ o → inverse_of_high w.register o w.high v.high ≡ Some to → IsBack w to v
back_of_high w v None to none e =
    let same = same_Some _ _ e in
    subst (λ (x : Write). IsBack w x v) same (record { register = refl; value = high_back w v none })
back_of_high w v (Some x) to some e = absurd (none-some to e)

back_of_both : (w : Write) (v : Halves) (to : Write) → (let both : Option Write = Some (record { register = w.register; low = back w.low v.low; high = back w.high v.high }) in both) ≡ Some to → IsBack w to v
back_of_both w v to e = subst (λ (x : Write). IsBack w x v) (same_Some _ _ e) (record { register = refl; value = both_back w v })

back_of : (w : Write) (v : Halves) (requests : ℕ) (to : Write) (b : Bool) → inverse w (if b then v.high ∷ requests ∷ [] else v.high ∷ v.low ∷ requests ∷ []) ≡ Some to → IsBack w to v
back_of w v requests to true e = back_of_high w v w.low to refl e
back_of w v requests to false e = back_of_both w v to e

inverse_back : (w to : Write) (v : Halves) (body : List ℕ) → ((requests : ℕ) × (body ≡ shown w.register v requests)) → inverse w body ≡ Some to → IsBack w to v
inverse_back w to v body shows e = back_of w v shows.0 to (w.register == 2) (ap (inverse w) (sym shows.1) ∙ e)

refuses_high : (w : Write) (high : ℕ) (o : Option ℕ) → w.low ≡ o → inverse_of_high w.register o w.high high ≡ None → w.low ≡ None → ⊥
refuses_high w high None is e none = none-some _ (sym e)
refuses_high w high (Some x) is e none = none-some x (sym none ∙ is)

refuses : (w : Write) (body : List ℕ) → inverse w body ≡ None → IsRestorable w body → ⊥
refuses w [] e r = r
refuses w (a ∷ []) e r = r
refuses w (high ∷ requests ∷ []) e r = refuses_high w high w.low refl e r
refuses w (high ∷ low ∷ requests ∷ []) e r = none-some _ (sym e)
refuses w (a ∷ b ∷ c ∷ d ∷ more) e r = r

restores_high : (w to : Write) (high : ℕ) (o : Option ℕ) → w.low ≡ o → inverse_of_high w.register o w.high high ≡ Some to → w.low ≡ None
restores_high w to high None is e = is
restores_high w to high (Some x) is e = absurd (none-some to e)

restores : (w to : Write) (body : List ℕ) → inverse w body ≡ Some to → IsRestorable w body
restores w to [] e = none-some to e
restores w to (a ∷ []) e = none-some to e
restores w to (high ∷ requests ∷ []) e = restores_high w to high w.low refl e
restores w to (high ∷ low ∷ requests ∷ []) e = tt
restores w to (a ∷ b ∷ c ∷ d ∷ more) e = none-some to e

steady_at : (v : Halves) (m n : ℕ) (b : Bool) → configuration (if b then v.high ∷ m ∷ [] else v.high ∷ v.low ∷ m ∷ []) ≡ configuration (if b then v.high ∷ n ∷ [] else v.high ∷ v.low ∷ n ∷ [])
steady_at v m n true = refl
steady_at v m n false = refl

-- ---- the command relation

code_of : (a : Answered) (code : ℕ) (body : List ℕ) → a ≡ replied code body → a.code ≡ code
code_of a code body e = ap (λ (a : Answered). a.code) e

registers_after : (after : Board) (r : List Halves) (n : ℕ) → after ≡ record { registers = r; requests = n } → after.registers ≡ r
registers_after after r n e = ap (λ (b : Board). b.registers) e

get_shows : (b : Board) (key : ℕ) (a : Answered) (o : Option Halves) → slice_get b.registers key ≡ o → a ≡ get_answer key o b.requests → a.code ≡ success → ShownRecord registers key a.body b.registers
get_shows b key a None at e zero_code = absurd (let c = code_of a not_present [] e in omega arith)
get_shows b key a (Some v) at e zero_code = record { value = v; found = at; shows = (b.requests, ap (λ (a : Answered). a.body) e) }

-- a Get's code is that of whether there is such a register
get_agrees : (o : Option Halves) (key m n : ℕ) → (get_answer key o m).code ≡ (get_answer key o n).code
get_agrees None key m n = refl
get_agrees (Some v) key m n = refl

gets_agree : (b after c later : Board) (asked other : Asked) (key : ℕ) (a d : Answered) → asked ≡ AskGet key → other ≡ AskGet key → c.registers ≡ b.registers → Row b asked a after → Row c other d later
    → d.code ≡ a.code
gets_agree b after c later asked other key a d is is_too same row row_too =
    let one : a ≡ get_answer key (slice_get b.registers key) b.requests = (subst (λ (x : Asked). Row b x a after) is row).0 in
    let two : d ≡ get_answer key (slice_get c.registers key) c.requests = (subst (λ (x : Asked). Row c x d later) is_too row_too).0 in
    ap (λ (x : Answered). x.code) two
    ∙ ap (λ (r : List Halves). (get_answer key (slice_get r key) c.requests).code) same
    ∙ get_agrees (slice_get b.registers key) key c.requests b.requests
    ∙ sym (ap (λ (x : Answered). x.code) one)

valid_from : (v : Halves) → is_valid v ≡ true → IsValid v
valid_from v t = let parts = and_parts _ _ t in (leb-true _ _ parts.0, ltb-true _ _ parts.1)

valid_is : (v : Halves) → IsValid v → is_valid v ≡ true
valid_is v h = and_from _ _ (le-leb _ _ h.0) (lt-ltb _ _ h.1)

module _ (b after : Board) (w : Write) (a : Answered) where
  -- the answer and the registers after it, by what the register holds and by the test
  abbrev Tells : Option Halves → Type 0
  Tells o = (a ≡ (set_answer w o b.registers).0) × (after.registers ≡ (set_answer w o b.registers).1)

  record Did (v : Halves) : Type 0 where
    valid : IsValid (written w v)
    code : a.code ≡ success
    wrote : after.registers ≡ slice_set b.registers w.register (written w v)

  record Refused (v : Halves) : Type 0 where
    not_valid : IsValid (written w v) → ⊥
    code : a.code ≡ invalid_data_field
    kept : after.registers ≡ b.registers

  set_at : (v : Halves) (t : Bool) → is_valid (written w v) ≡ t
      → a ≡ (let r : Answered × List Halves = (if t then (replied success [], slice_set b.registers w.register (written w v)) else (replied invalid_data_field [], b.registers)) in r.0)
      → after.registers ≡ (let r : Answered × List Halves = (if t then (replied success [], slice_set b.registers w.register (written w v)) else (replied invalid_data_field [], b.registers)) in r.1)
      → Did v ⊎ Refused v
  set_at v true t e f = inl (record { valid = valid_from (written w v) t; code = code_of a success [] e; wrote = f })
  set_at v false t e f = inr (record { not_valid = λ ok. false≢true (sym t ∙ valid_is (written w v) ok); code = code_of a invalid_data_field [] e; kept = f })

  does : (o : Option Halves) → slice_get b.registers w.register ≡ o → Tells o → a.code ≡ success → SetsTo registers w b.registers after.registers
  does None at told zero_code = absurd (let c = code_of a not_present [] told.0 in omega arith)
  does (Some v) at told zero_code = elim (set_at v (is_valid (written w v)) refl told.0 told.1) [
    | inl did ↦ record { before = v; after = written w v; found = at; sets = (refl, did.valid); changed = did.wrote }
    | inr refused ↦ absurd (let c = refused.code in omega arith)
  ]

  keeps : (o : Option Halves) → Tells o → a.code ≢ success → after.registers ≡ b.registers
  keeps None told ne = told.1
  keeps (Some v) told ne = elim (set_at v (is_valid (written w v)) refl told.0 told.1) [
    | inl did ↦ absurd (ne did.code)
    | inr refused ↦ refused.kept
  ]

  says : (o : Option Halves) → slice_get b.registers w.register ≡ o → Tells o → a.code ≢ success → (r : List Halves) → SetsTo registers w b.registers r → ⊥
  says None at told ne r s = none-some s.before (sym at ∙ s.found)
  says (Some v) at told ne r s = elim (set_at v (is_valid (written w v)) refl told.0 told.1) [
    | inl did ↦ absurd (ne did.code)
    | inr refused ↦
        let same : s.before ≡ v = same_Some _ _ (sym s.found ∙ at) in
        refused.not_valid (subst (λ (x : Halves). IsValid (written w x)) same (subst IsValid s.sets.0 s.sets.1))
  ]

tells : (b after : Board) (w : Write) (a : Answered) → Row b (AskSet w) a after → Tells b after w a (slice_get b.registers w.register)
tells b after w a row = (row.0, registers_after after _ (suc b.requests) row.1)

get_free : (b : Board) (register : ℕ) (o : Option Halves) → is_busy (get_answer register o b.requests).code ≡ false
get_free b register None = refl
get_free b register (Some v) = refl

set_free : (w : Write) (o : Option Halves) (r : List Halves) → is_busy (set_answer w o r).0.code ≡ false
set_free w None r = refl
set_free w (Some v) r =
    cond_both (is_valid (written w v)) (replied success [], slice_set r w.register (written w v)) (replied invalid_data_field [], r) (λ (x : Answered × List Halves). is_busy x.0.code ≡ false) (λ _. refl) (λ _. refl)

free : (b : Board) (asked : Asked) → is_busy (answer b asked).0.code ≡ false
free b (AskGet register) = get_free b register (slice_get b.registers register)
free b (AskSet w) = set_free w (slice_get b.registers w.register) b.registers

pub registers_are_single : IsSingleFamily registers
registers_are_single = record {
  kinds = record {
    put_back = put_back;
    get_put = get_put;
    put_valid = put_valid;
    sets_valid = λ w old new valid sets. sets.1;
    sets_one = λ w old new other sets again. sets.0 ∙ sym again.0;
    same_key = λ w to v body valid shows e. (inverse_back w to v body shows e).register;
    undoes = λ w to v new body valid sets shows e. ((inverse_back w to v body shows e).value ∙ ap (written to) (sym sets.0), valid);
    restores = λ w to v body valid shows e. restores w to body e;
    refuses = λ w v body valid shows e. refuses w body e;
    steady = λ key v body other valid shows again. ap configuration shows.1 ∙ steady_at v shows.0 again.0 (key == 2) ∙ sym (ap configuration again.1);
  };
  single = record { none_next = λ series bodies. refl; shows_it = λ series body. refl };
  ready = λ b series bodies. tt;
  gets_are = λ key. refl;
  gets_keep = λ b after asked key a is row. registers_after after b.registers (suc b.requests) (subst (λ (x : Asked). Row b x a after) is row).1;
  gets_show = λ b after asked key a is row. get_shows b key a (slice_get b.registers key) refl (subst (λ (x : Asked). Row b x a after) is row).0;
  gets_agree = gets_agree;
  sets_do = λ b after w a row. does b after w a (slice_get b.registers w.register) refl (tells b after w a row);
  refusals_keep = λ b after w a row. keeps b after w a (slice_get b.registers w.register) (tells b after w a row);
  refusals_say = λ b after w a row. says b after w a (slice_get b.registers w.register) refl (tells b after w a row);
  never_busy = λ b after asked a row. ap (λ (x : Answered). is_busy x.code) row.0 ∙ free b asked;
}

pub registers_are_family : IsFamily registers
registers_are_family = single_family registers registers_are_single
