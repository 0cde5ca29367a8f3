-- What an item without a fault has in its fields.
use Rattle.std.proofs.Common.{◌≡◌, ℕ, ◌<◌, ◌≤◌, List, [], ◌∷◌, ◌++◌, map, Bool, true, false, not, cond, Option, Some, None, refl, sym, ◌∙◌, arith, nat_le, subst}
use Rattle.std.proofs.lemmas.Bool.{and_parts}
use Rattle.std.proofs.lemmas.Bool.Decides.{nat_tests}
use Rattle.std.proofs.lemmas.Option.{same_Some}
use Rattle.std.specs.List.{filter, AllByRecursion}
use Rattle.toml.specs.Data.{Data, Members}
use Rattle.text_fields.specs.declared.field.Field.{Field}
use Rattle.text_fields.specs.declared.row.Row.{Row}
use Rattle.text_fields.specs.declared.row.Shape.{Shape}
use Rattle.text_fields.specs.declared.row.Shape.TheVariants as shape
use Rattle.text_fields.specs.declared.row.Need.TheVariants as need
use Rattle.text_fields.specs.declared.fault.FieldFault.TheVariants as fault
use Rattle.text_fields.specs.Trees.{in_field, natural, number_in, HasBelow}
use Rattle.text_fields.specs.Ranges.{passes, has_type, is_between, is_in_range}
use Rattle.text_fields.specs.Faults.{is_needed, is_missing, is_mistyped, is_beyond, field_faults}

-- the item has no fault in the row's field
pub record Sound (tree : Members) (row : Row) : Type 0 where
  pub present : is_missing tree row ≡ false
  pub typed : is_mistyped tree row ≡ false
  pub within : is_beyond tree row ≡ false

pub both_empty : {A : Type 0} (xs ys : List A) → xs ++ ys ≡ [] → (xs ≡ []) × (ys ≡ [])
both_empty [] ys is = (refl, is)
both_empty (x ∷ xs) ys is = cc

none_here : {A B : Type 0} (b : Bool) (f : A → B) (x : A) (xs : List A) → map f (cond b (x ∷ xs) xs) ≡ [] → (b ≡ false) × (map f xs ≡ [])
none_here true f x xs is = cc
none_here false f x xs is = (refl, is)

none_pass : {A B : Type 0} (f : A → B) (p : A → Bool) (xs : List A) → map f (filter p xs) ≡ [] → AllByRecursion (λ x. p x ≡ false) xs
none_pass f p [] is = tt
none_pass f p (x ∷ xs) is = let (here, more) = none_here (p x) f x (filter p xs) is in (here, none_pass f p xs more)

together : (tree : Members) (rows : List Row) → AllByRecursion (λ row. is_missing tree row ≡ false) rows → AllByRecursion (λ row. is_mistyped tree row ≡ false) rows
    → AllByRecursion (λ row. is_beyond tree row ≡ false) rows → AllByRecursion (Sound tree) rows
together tree [] a b c = tt
together tree (row ∷ rows) a b c = (record { present = a.0; typed = b.0; within = c.0 }, together tree rows a.1 b.1 c.1)

-- an item without a fault has none in any field
pub all_sound : (rows : List Row) (tree : Members) → field_faults rows tree ≡ [] → AllByRecursion (Sound tree) rows
unfolding field_faults
all_sound rows tree none =
    let (a, more) = both_empty (map (λ (r : Row). fault.Missing r.0) (filter (is_missing tree) rows)) _ none in
    let (b, c) = both_empty (map (λ (r : Row). fault.WrongType r.0) (filter (is_mistyped tree) rows)) _ more in
    together tree rows
    (none_pass (λ (r : Row). fault.Missing r.0) (is_missing tree) rows a)
    (none_pass (λ (r : Row). fault.WrongType r.0) (is_mistyped tree) rows b)
    (none_pass (λ (r : Row). fault.Range r.0) (is_beyond tree) rows c)

-- nor has one whose rows are these
pub all_checked : {rows known : List Row} (tree : Members) → field_faults rows tree ≡ [] → rows ≡ known → AllByRecursion (Sound tree) known
all_checked {rows} {known} tree none is = all_sound known tree (subst (λ (r : List Row). field_faults r tree ≡ []) is none)

-- a value that the item has, of its type and in its range
pub record Value (tree : Members) (field : Field) (shape : Shape) : Type 0 where
  pub value : Data
  pub found : in_field field tree ≡ Some value
  pub typed : has_type shape value ≡ true
  pub within : is_in_range tree shape value ≡ true

pub not_false : (b : Bool) → not b ≡ false → b ≡ true
not_false true is = refl
not_false false is = sym is

pub value_of : (tree : Members) (row : Row) (o : Option Data) → in_field row.0 tree ≡ o → is_needed tree row.2 ≡ true → Sound tree row → Value tree row.0 row.1
value_of tree row (Some d) is needed sound = record {
  value = d;
  found = is;
  typed = not_false (has_type row.1 d) (rw is at sound.typed);
  within = not_false (is_in_range tree row.1 d) (rw is at sound.within);
}
value_of tree row None is needed sound = let missing : true ≡ false = rw (needed, is) at sound.present in cc

-- a number that the item has
pub record Number (tree : Members) (field : Field) (least most : ℕ) : Type 0 where
  pub number : ℕ
  pub found : number_in field tree ≡ Some number
  pub above : least ≤ number
  pub within : number ≤ most

pub number_cases : (tree : Members) (field : Field) (least most : ℕ) (d : Data) (o : Option ℕ) → in_field field tree ≡ Some d → natural d ≡ o → passes (is_between least most) o ≡ true → Number tree field least most
number_cases tree field least most d (Some n) found is within = record {
  number = n;
  found = rw (found, is);
  above = let (low, high) = and_parts (nat_le least n) (nat_le n most) within in grind (arith, nat_tests);
  within = let (low, high) = and_parts (nat_le least n) (nat_le n most) within in grind (arith, nat_tests);
}
number_cases tree field least most d None found is within = cc

pub number_of : (tree : Members) (field : Field) (least most : ℕ) → Sound tree (record { 0 = field; 1 = shape.Number least most; 2 = need.Always }) → Number tree field least most
number_of tree field least most sound =
    let v = value_of tree (record { 0 = field; 1 = shape.Number least most; 2 = need.Always }) (in_field field tree) refl refl sound in
    number_cases tree field least most v.value (natural v.value) v.found refl v.within

-- a number below a limit
pub below : {tree : Members} {field : Field} {least most : ℕ} (limit : ℕ) → Number tree field least most → most < limit → HasBelow limit field tree
below limit v lt = (v.number, (v.found, omega (arith, v.within, lt)))

-- one number in a field
pub within : {tree : Members} {field : Field} {least most : ℕ} (n : ℕ) → Number tree field least most → number_in field tree ≡ Some n → n ≤ most
within n v is = let same : v.number ≡ n = same_Some _ _ (sym v.found ∙ is) in omega (arith, v.within, same)

pub at_least : {tree : Members} {field : Field} {least most : ℕ} (n : ℕ) → Number tree field least most → number_in field tree ≡ Some n → least ≤ n
at_least n v is = let same : v.number ≡ n = same_Some _ _ (sym v.found ∙ is) in omega (arith, v.above, same)

-- that a value that is found is the item's
pub same_value : {A : Type 0} (a b : A) (o : Option A) → o ≡ Some a → o ≡ Some b → a ≡ b
same_value a b o is also = same_Some a b (sym is ∙ also)
