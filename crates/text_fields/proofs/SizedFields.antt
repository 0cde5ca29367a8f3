-- The numbers of a size that a table has in its fields.
use Rattle.std.proofs.Common.{◌≡◌, ℕ, zero, suc, ◌≤◌, nat_le, true, Option, Some, None, is_some, option_and_then, refl, ap, arith}
use Rattle.std.proofs.lemmas.Bool.{and_parts}
use Rattle.std.proofs.lemmas.Bool.Decides.{nat_tests}
use Rattle.toml.specs.Data.{Data, Members}
use Rattle.record_base.specs.declared.numeric_size.NumericSize.{NumericSize}
use Rattle.record_base.specs.declared.numeric_size.NumericSize.TheVariants.{U8, S8, U16, S16, U32, S32}
use Rattle.record_base.specs.NumericSize.{code_of}
use Rattle.text_fields.specs.declared.field.Field.{Field}
use Rattle.text_fields.specs.declared.field.Field.TheVariants as field
use Rattle.text_fields.specs.declared.row.Shape.TheVariants as shape
use Rattle.text_fields.specs.declared.row.Need.TheVariants as need
use Rattle.text_fields.specs.Trees.{in_field, natural, number_in}
use Rattle.text_fields.specs.Numeric.{size_at, size_in, sized, sized_in}
use Rattle.text_fields.specs.Ranges.{passes, is_between}
use Rattle.text_fields.proofs.Rows.{Sound, value_of}

-- the size that an item names
pub record Named (tree : Members) : Type 0 where
  pub size : NumericSize
  pub found : size_in tree ≡ Some size
  pub coded : number_in field.Size tree ≡ Some (code_of size)

size_cases : (tree : Members) (n : ℕ) → number_in field.Size tree ≡ Some n → is_between 0 5 n ≡ true → Named tree
unfolding size_at
size_cases tree zero has within = record { size = U8; found = ap (option_and_then size_at) has; coded = has }
size_cases tree (suc zero) has within = record { size = S8; found = ap (option_and_then size_at) has; coded = has }
size_cases tree (suc (suc zero)) has within = record { size = U16; found = ap (option_and_then size_at) has; coded = has }
size_cases tree (suc (suc (suc zero))) has within = record { size = S16; found = ap (option_and_then size_at) has; coded = has }
size_cases tree (suc (suc (suc (suc zero)))) has within = record { size = U32; found = ap (option_and_then size_at) has; coded = has }
size_cases tree (suc (suc (suc (suc (suc zero))))) has within = record { size = S32; found = ap (option_and_then size_at) has; coded = has }
size_cases tree (suc (suc (suc (suc (suc (suc n)))))) has within =
    let m : ℕ = suc (suc (suc (suc (suc (suc n))))) in
    let (low, high) = and_parts (nat_le 0 m) (nat_le m 5) within in
    let most : m ≤ 5 = grind (arith, nat_tests) in
    absurd (omega arith)

code_cases : (tree : Members) (d : Data) (o : Option ℕ) → in_field field.Size tree ≡ Some d → natural d ≡ o → passes (is_between 0 5) o ≡ true → Named tree
code_cases tree d (Some n) found is within = size_cases tree n (rw (found, is)) within
code_cases tree d None found is within = cc

pub named_in : (tree : Members) → Sound tree (record { 0 = field.Size; 1 = shape.Number 0 5; 2 = need.Always }) → Named tree
named_in tree sound =
    let v = value_of tree (record { 0 = field.Size; 1 = shape.Number 0 5; 2 = need.Always }) (in_field field.Size tree) refl refl sound in
    code_cases tree v.value (natural v.value) v.found refl v.within

-- a number of the size that the item has
pub record Told (tree : Members) (size : NumericSize) (named : Field) : Type 0 where
  pub number : ℕ
  pub found : sized_in size named tree ≡ Some number

number_cases : (tree : Members) (size : NumericSize) (named : Field) (d : Data) (o : Option ℕ) → in_field named tree ≡ Some d → sized size d ≡ o → is_some o ≡ true → Told tree size named
number_cases tree size named d (Some n) found is some = record { number = n; found = rw (found, is) }
number_cases tree size named d None found is some = cc

-- a number that the item has, without bounds
pub told_in : (tree : Members) (size : NumericSize) (named : Field) → size_in tree ≡ Some size → Sound tree (record { 0 = named; 1 = shape.Sized; 2 = need.Always }) → Told tree size named
told_in tree size named is sound =
    let v = value_of tree (record { 0 = named; 1 = shape.Sized; 2 = need.Always }) (in_field named tree) refl refl sound in
    let some : is_some (sized size v.value) ≡ true = rw is at v.within in
    number_cases tree size named v.value (sized size v.value) v.found refl some
