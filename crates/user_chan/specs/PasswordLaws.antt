-- Laws of passwords and of enabled users.
use Rattle.std.proofs.Common.{◌≡◌, ◌≢◌, ℕ, ◌-◌, ◌^◌, ◌<◌, List, [], ◌∷◌, ◌==◌, bit_or, Bool, true, false, if◌then◌else◌, Result, Ok, Err, refl, sym, ◌∙◌, ap, subst, arith}
use Rattle.std.proofs.lemmas.Bool.Decides.{nat_tests}
use Rattle.std.specs.Int.{bit_at, w64}
use Rattle.std.proofs.lemmas.Nat.Bits.{bit_at_and, bit_at_or, bit_at_not, bit_at-lt, bit_at-pow_same, bit_at-pow_other}
use Rattle.std.proofs.lemmas.Nat.{pow_below}
use Rattle.std.proofs.lemmas.List.{get_or-set_other}
use Rattle.std.proofs.lemmas.Grind.{get_or-set_at}
use Rattle.record_base.specs.InverseLaws.{tested_same, same_tested}
use Rattle.record_base.specs.MaskLaws.{both_true, both}
use Rattle.user_chan.specs.CommonLaws.{true_not_false}
use Rattle.user_chan.specs.declared.password.Password.{Password}
use Rattle.user_chan.specs.declared.password.Password.TheVariants.{Sixteen, Twenty}
use Rattle.user_chan.specs.Passwords.{wrong_text, wrong_size, same_bytes, same_password, same_size, test_answer, opening_password, enabled_after, TestsTell, AllTestsTell, AllSetsAreKept, ChangesOneStatus}

-- ---- tests

pub bytes_true : (a b : List ℕ) → same_bytes a b ≡ true → a ≡ b
bytes_true [] [] h = refl
bytes_true (a ∷ xs) (b ∷ ys) h = let tests = both_true _ _ h in λ i. tested_same a b tests.0 i ∷ bytes_true xs ys tests.1 i
bytes_true [] (b ∷ ys) h = cc
bytes_true (a ∷ xs) [] h = cc

bytes_self : (a : List ℕ) → same_bytes a a ≡ true
bytes_self [] = refl
bytes_self (a ∷ xs) = both _ _ (same_tested a a refl) (bytes_self xs)

pub true_bytes : (a b : List ℕ) → a ≡ b → same_bytes a b ≡ true
true_bytes a b same = subst (λ (xs : List ℕ). same_bytes a xs ≡ true) same (bytes_self a)

pub password_true : (a b : Password) → same_password a b ≡ true → a ≡ b
password_true (Sixteen a) (Sixteen b) h = ap Sixteen (bytes_true a b h)
password_true (Twenty a) (Twenty b) h = ap Twenty (bytes_true a b h)
password_true (Sixteen a) (Twenty b) h = cc
password_true (Twenty a) (Sixteen b) h = cc

password_self : (a : Password) → same_password a a ≡ true
password_self (Sixteen a) = bytes_self a
password_self (Twenty a) = bytes_self a

pub true_password : (a b : Password) → a ≡ b → same_password a b ≡ true
true_password a b same = subst (λ (p : Password). same_password a p ≡ true) same (password_self a)

size_self : (a : Password) → same_size a a ≡ true
size_self (Sixteen a) = refl
size_self (Twenty a) = refl

tells_where : (kept given : Password) (b c : Bool) → same_password kept given ≡ b → same_size kept given ≡ c → (let r : Result (Unit {0}) ℕ = if b then Ok tt else Err (if c then wrong_text else wrong_size) in r) ≡ test_answer kept given → TestsTell kept given
tells_where kept given true c is size answers = record {
  passed = λ _. sym (password_true kept given is);
  itself = λ _. sym answers;
  size = λ other. absurd (true_not_false _ (subst (λ (p : Password). same_size kept p ≡ true) (password_true kept given is) (size_self kept)) other);
  text = λ _ other. absurd (other (sym (password_true kept given is)));
}
tells_where kept given false true is size answers = record {
  passed = λ ok. let bad : Err wrong_text ≡ (let r : Result (Unit {0}) ℕ = Ok tt in r) = answers ∙ ok in cc;
  itself = λ same. absurd (true_not_false _ (true_password kept given (sym same)) is);
  size = λ other. absurd (true_not_false _ size other);
  text = λ _ _. sym answers;
}
tells_where kept given false false is size answers = record {
  passed = λ ok. let bad : Err wrong_size ≡ (let r : Result (Unit {0}) ℕ = Ok tt in r) = answers ∙ ok in cc;
  itself = λ same. absurd (true_not_false _ (true_password kept given (sym same)) is);
  size = λ _. sym answers;
  text = λ fits _. absurd (true_not_false _ fits size);
}

pub all_tests_tell : AllTestsTell
all_tests_tell kept given =
    tells_where kept given (same_password kept given) (same_size kept given) refl refl refl

-- ---- what is kept

pub all_sets_are_kept : AllSetsAreKept
all_sets_are_kept kept user password inside = record {
  own = get_or-set_at kept user user password opening_password refl inside;
  others = λ other apart. get_or-set_other kept user other password opening_password apart;
}

-- ---- who is enabled

not_one : (n : ℕ) → n ≡ 0 → (n == 1) ≡ false
not_one n zero_is = grind (arith, nat_tests)

other_number : (m n : ℕ) → (m == n) ≡ false → m ≢ n
other_number m n h same = grind (arith, nat_tests)

status_where : (users user other : ℕ) (enabled t : Bool) → user < 64 → other < 64 → 2 ^ user < 2 ^ 64 → (other == user) ≡ t → (bit_at (enabled_after users user enabled) other == 1) ≡ (if t then enabled else (bit_at users other == 1))
status_where users user other true true small on word is =
    let same : other ≡ user = tested_same other user is in
    same_tested _ 1 (ap (bit_at (bit_or users (2 ^ user))) same ∙ omega (arith, bit_at_or users (2 ^ user) user, bit_at-pow_same user, bit_at-lt users user))
status_where users user other true false small on word is =
    ap (λ (n : ℕ). n == 1) (omega (arith, bit_at_or users (2 ^ user) other, bit_at-pow_other user other (other_number other user is), bit_at-lt users other))
status_where users user other false true small on word is =
    let same : other ≡ user = tested_same other user is in
    let gone : bit_at (2 ^ user) other ≡ 1 = ap (bit_at (2 ^ user)) same ∙ bit_at-pow_same user in
    let flag : bit_at (18446744073709551615 - 2 ^ user) other ≡ 1 - bit_at (2 ^ user) other = bit_at_not w64 (2 ^ user) other word on in
    not_one _ (bit_at_and users (18446744073709551615 - 2 ^ user) other ∙ omega arith)
status_where users user other false false small on word is =
    let none : bit_at (2 ^ user) other ≡ 0 = bit_at-pow_other user other (other_number other user is) in
    let flag : bit_at (18446744073709551615 - 2 ^ user) other ≡ 1 - bit_at (2 ^ user) other = bit_at_not w64 (2 ^ user) other word on in
    let byte : bit_at users other < 2 = bit_at-lt users other in
    ap (λ (n : ℕ). n == 1) (bit_at_and users (18446744073709551615 - 2 ^ user) other ∙ omega arith)

pub changes_one_status : ChangesOneStatus
changes_one_status users user other enabled small on = status_where users user other enabled (other == user) small on (pow_below user 64 small) refl
