-- The numeric effecters of a file, and what an item with numbers of a size has in its fields.
use Rattle.std.proofs.Common.{◌≡◌, ◌&&◌, true, Some, option_and_then, refl, sym, ap, ◌∙◌}
use Rattle.std.proofs.lemmas.Bool.{and_parts}
use Rattle.std.proofs.lemmas.Option.{same_Some}
use Rattle.toml.specs.Data.{Members}
use Rattle.record_base.specs.declared.numeric_size.NumericSize.{NumericSize}
use Rattle.record_base.specs.declared.numeric_size.NumericSize.TheVariants.{U8, S8, U16, S16, U32, S32}
use Rattle.record_base.specs.NumericSize.{code_of}
use Rattle.text_fields.specs.declared.field.Field.TheVariants as field
use Rattle.text_fields.specs.declared.row.Shape.TheVariants as shape
use Rattle.text_fields.specs.declared.row.Need.TheVariants as need
use Rattle.text_fields.specs.Trees.{in_field, number_in}
use Rattle.text_fields.specs.Numeric.{size_at, size_in, sized, sized_in, in_order}
use Rattle.text_fields.proofs.Rows.{Sound, value_of}
use Rattle.text_fields.proofs.Sizes.{Ordered, ordered}
use Rattle.text_fields.proofs.SizedFields.{Named}

-- the size that is found is the one that the item names
pub named_is : (tree : Members) (size : NumericSize) → Named tree → size_in tree ≡ Some size → number_in field.Size tree ≡ Some (code_of size)
named_is tree size named is =
    let same : named.size ≡ size = same_Some _ _ (sym named.found ∙ is) in
    rw (← same) named.coded

-- the number of a size finds the size
pub size_back : (size : NumericSize) → size_at (code_of size) ≡ Some size
unfolding size_at
size_back U8 = refl
size_back S8 = refl
size_back U16 = refl
size_back S16 = refl
size_back U32 = refl
size_back S32 = refl

-- the size whose number the item has is the one that it names
pub size_found : (tree : Members) (size : NumericSize) → number_in field.Size tree ≡ Some (code_of size) → size_in tree ≡ Some size
size_found tree size coded = ap (option_and_then size_at) coded ∙ size_back size

-- the bounds that the item has
pub bounds_in : (tree : Members) (size : NumericSize) → size_in tree ≡ Some size → Sound tree (record { 0 = field.Upper; 1 = shape.Upper; 2 = need.Always })
    → Ordered size (sized_in size field.Lower tree) (sized_in size field.Upper tree)
bounds_in tree size is sound =
    let v = value_of tree (record { 0 = field.Upper; 1 = shape.Upper; 2 = need.Always }) (in_field field.Upper tree) refl refl sound in
    let holds : in_order size (sized_in size field.Lower tree) (sized size v.value) ≡ true = rw is at v.within in
    ordered size (sized_in size field.Lower tree) (sized_in size field.Upper tree) (rw v.found holds)

-- the number within the bounds that the item has
pub record Within (tree : Members) (size : NumericSize) : Type 0 where
  pub above : in_order size (sized_in size field.Lower tree) (sized_in size field.Current tree) ≡ true
  pub below : in_order size (sized_in size field.Current tree) (sized_in size field.Upper tree) ≡ true

pub within_bounds : (tree : Members) (size : NumericSize) → size_in tree ≡ Some size → Sound tree (record { 0 = field.Current; 1 = shape.Current; 2 = need.Always }) → Within tree size
within_bounds tree size is sound =
    let v = value_of tree (record { 0 = field.Current; 1 = shape.Current; 2 = need.Always }) (in_field field.Current tree) refl refl sound in
    let holds : (in_order size (sized_in size field.Lower tree) (sized size v.value) && in_order size (sized size v.value) (sized_in size field.Upper tree)) ≡ true = rw is at v.within in
    let (above, below) = and_parts (in_order size (sized_in size field.Lower tree) (sized size v.value)) (in_order size (sized size v.value) (sized_in size field.Upper tree)) holds in
    record { above = rw v.found above; below = rw v.found below }
