-- What a table holds is one value: numbers, lists, texts, masks, and the items of an array.
use Rattle.std.proofs.Common.{◌≡◌, ◌<◌, ◌==◌, ◌∙◌, ℕ, zero, suc, nat_lt, List, [], ◌∷◌, length, Bool, true, false, if◌then◌else◌, Option, Some, None, option_and_then, refl, sym, arith}
use Rattle.std.proofs.lemmas.Nat.Bits.{same_from_bits, bit_at-lt}
use Rattle.std.proofs.lemmas.Option.{same_Some}
use Rattle.std.proofs.lemmas.Slice.Eq.{bytes_eq-Decides}
use Rattle.std.specs.Int.{bit_at}
use Rattle.std.specs.List.{AllZip, list_all}
use Rattle.std.specs.Str.{bytes_eq}
use mathlib.Core.HLevel.{is_prop→PathP}
use Rattle.record_base.specs.Masks.{has}
use Rattle.record_base.specs.BootParam.{flag_bytes}
use Rattle.record_base.specs.declared.boot_param.BootFlags.{BootFlags}
use Rattle.toml.specs.Data.{Data, Members, as_str}
use Rattle.text_fields.specs.declared.field.Field.{Field}
use Rattle.text_fields.specs.Trees.{all_bytes, of_length, bytes_in, naturals, naturals_in, members, in_field, natural, IsNaturalIn, number_in, HasNumbers}
use Rattle.text_fields.specs.Ranges.{passes, has_text}

-- ---- values

-- a value that is made with a proof is one where what it is made of is one
pub same_made : {A C : Type 0} {P : A → Type 0} (make : (x : A) → P x → C) → ((x : A) → IsProp (P x)) → (a b : A) (p : P a) (q : P b) → a ≡ b → make a p ≡ make b q
same_made {A} {C} {P} make prop a b p q e = λ i. make (e i) (is_prop→PathP (λ j. P (e j)) (λ j. prop (e j)) p q i)

-- what is found is one value
pub one_found : {A : Type 0} (found : Option A) (a b : A) → found ≡ Some a → found ≡ Some b → a ≡ b
one_found found a b p q = same_Some a b (sym p ∙ q)

-- the items of an array are one list where each is one
pub one_list : {A B : Type 0} {R : A → B → Type 0} → ((x : A) (a b : B) → R x a → R x b → a ≡ b) → (xs : List A) (ms ns : List B) → AllZip R xs ms → AllZip R xs ns → ms ≡ ns
one_list one [] [] [] z w = refl
one_list one [] (a ∷ ms) ns z w = absurd z
one_list one [] [] (b ∷ ns) z w = absurd w
one_list one (x ∷ xs) [] ns z w = absurd z
one_list one (x ∷ xs) (a ∷ ms) [] z w = absurd w
one_list one (x ∷ xs) (a ∷ ms) (b ∷ ns) z w =
    let head = one x a b z.0 w.0 in
    let rest = one_list one xs ms ns z.1 w.1 in
    λ i. head i ∷ rest i

-- ---- numbers

where_passed : {A : Type 0} (b : Bool) (x y : A) → (if b then Some x else None) ≡ Some y → x ≡ y
where_passed true x y e = same_Some x y e
where_passed false x y e = cc e

counted : (count : ℕ) (found : Option (List ℕ)) (ns : List ℕ) → of_length count found ≡ Some ns → found ≡ Some ns
counted count None ns e = cc e
counted count (Some ms) ns e = let same = where_passed (length ms == count) ms ns e in λ i. Some (same i)

of_bytes : (found : Option (List ℕ)) (ns : List ℕ) → option_and_then all_bytes found ≡ Some ns → found ≡ Some ns
of_bytes None ns e = cc e
of_bytes (Some ms) ns e = let same = where_passed (list_all (λ n. nat_lt n 256) ms) ms ns e in λ i. Some (same i)

-- an array's bytes are one list, however many are asked for
pub one_bytes : (d : Data) (ms ns : List ℕ) → bytes_in (length ms) d ≡ Some ms → bytes_in (length ns) d ≡ Some ns → ms ≡ ns
one_bytes d ms ns p q =
    let first = counted (length ms) (option_and_then naturals (members d)) ms (of_bytes (naturals_in (length ms) d) ms p) in
    let second = counted (length ns) (option_and_then naturals (members d)) ns (of_bytes (naturals_in (length ns) d) ns q) in
    one_found (option_and_then naturals (members d)) ms ns first second

numbers_of : (found : Option Data) (count : ℕ) (ns : List ℕ) → option_and_then (naturals_in count) found ≡ Some ns → option_and_then (λ d. option_and_then naturals (members d)) found ≡ Some ns
numbers_of None count ns e = cc e
numbers_of (Some d) count ns e = counted count (option_and_then naturals (members d)) ns e

-- a field's numbers are one list, however many are asked for
pub one_numbers : (named : Field) (tree : Members) (ms ns : List ℕ) → HasNumbers named tree ms → HasNumbers named tree ns → ms ≡ ns
one_numbers named tree ms ns p q =
    one_found (option_and_then (λ d. option_and_then naturals (members d)) (in_field named tree)) ms ns
    (numbers_of (in_field named tree) (length ms) ms p) (numbers_of (in_field named tree) (length ns) ns q)

-- a field's two numbers are one pair
pub one_pair : (named : Field) (tree : Members) {a b c d : ℕ} → HasNumbers named tree (a ∷ b ∷ []) → HasNumbers named tree (c ∷ d ∷ []) → (a ≡ c) × (b ≡ d)
one_pair named tree {a} {b} {c} {d} p q =
    let same = one_numbers named tree (a ∷ b ∷ []) (c ∷ d ∷ []) p q in
    (cc same, cc same)

-- a value is one number
pub one_natural : (d : Data) (a b : ℕ) → IsNaturalIn d a → IsNaturalIn d b → a ≡ b
one_natural d a b p q = one_found (natural d) a b p q

-- a field has one number
pub one_number : (named : Field) (tree : Members) (a b : ℕ) → number_in named tree ≡ Some a → number_in named tree ≡ Some b → a ≡ b
one_number named tree a b p q = one_found (number_in named tree) a b p q

-- boot flags are known by their bytes
pub same_flags : (a b : BootFlags) → flag_bytes a ≡ flag_bytes b → a ≡ b
same_flags a b q =
    let validity : a.validity ≡ b.validity = cc q in
    let device : a.device ≡ b.device = cc q in
    let console : a.console ≡ b.console = cc q in
    let overrides : a.overrides ≡ b.overrides = cc q in
    let instance : a.instance ≡ b.instance = cc q in
    λ i. record { validity = validity i; device = device i; console = console i; overrides = overrides i; instance = instance i }

-- ---- masks

-- bits that pass the same test are one
pub same_bit : (a b : ℕ) → a < 2 → b < 2 → (a == 1) ≡ (b == 1) → a ≡ b
same_bit zero zero p q e = refl
same_bit zero (suc zero) p q e = cc e
same_bit (suc zero) zero p q e = cc e
same_bit (suc zero) (suc zero) p q e = refl
same_bit (suc (suc a)) b p q e = absurd (omega (arith, p))
same_bit zero (suc (suc b)) p q e = absurd (omega (arith, q))
same_bit (suc zero) (suc (suc b)) p q e = absurd (omega (arith, q))

-- masks that have the same places are one
pub one_mask : (a b : ℕ) (told : ℕ → Bool) → ((place : ℕ) → has a place ≡ told place) → ((place : ℕ) → has b place ≡ told place) → a ≡ b
one_mask a b told p q = same_from_bits a b (λ i. same_bit (bit_at a i) (bit_at b i) (bit_at-lt a i) (bit_at-lt b i) (p i ∙ sym (q i)))

-- ---- texts

one_text : (found : Option (List ℕ)) (v w : List ℕ) → passes (λ x. bytes_eq x v) found ≡ true → passes (λ x. bytes_eq x w) found ≡ true → v ≡ w
one_text None v w p q = cc p
one_text (Some x) v w p q = sym (read x v p) ∙ read x w q
  where
    read : (x v : List ℕ) → bytes_eq x v ≡ true → x ≡ v
    read x v p = (bytes_eq-Decides x v).0 p

-- a field has one text
pub one_word : (named : Field) (v w : List ℕ) (tree : Members) → has_text named v tree ≡ true → has_text named w tree ≡ true → v ≡ w
one_word named v w tree p q = one_text (option_and_then as_str (in_field named tree)) v w p q
