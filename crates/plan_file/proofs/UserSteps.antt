-- What a step for a user or a channel has in its fields.
use Rattle.std.proofs.Common.{◌≡◌, ℕ, ◌<◌, nat_le, nat_lt, true, false, not, is_some, is_none, Option, Some, None, refl, ap, arith}
use Rattle.std.proofs.lemmas.Bool.{and_parts}
use Rattle.std.proofs.lemmas.Bool.Decides.{nat_tests}
use Rattle.record_base.specs.UserAccess.{is_limit}
use Rattle.record_base.specs.UserSizes.{least_privilege, most_privilege, is_privilege, has_mode}
use Rattle.toml.specs.Data.{Data, Members}
use Rattle.text_fields.specs.declared.field.Field.TheVariants as field
use Rattle.text_fields.specs.declared.row.Shape.TheVariants as shape
use Rattle.text_fields.specs.declared.row.Need.TheVariants as need
use Rattle.text_fields.specs.Trees.{in_field, natural, HasBelow}
use Rattle.text_fields.specs.Channels.{is_access}
use Rattle.text_fields.specs.Ranges.{passes}
use Rattle.text_fields.specs.Faults.{is_needed}
use Rattle.text_fields.proofs.Rows.{Sound, value_of, not_false}

-- ---- limits of users

limit_small : (n : ℕ) → is_limit n ≡ true → n < 256
limit_small n is = grind (arith, nat_tests)

limit_cases : (tree : Members) (d : Data) (o : Option ℕ) → in_field field.Limit tree ≡ Some d → natural d ≡ o → passes is_limit o ≡ true → HasBelow 256 field.Limit tree
limit_cases tree d (Some n) found is within = (n, (rw (found, is), limit_small n within))
limit_cases tree d None found is within = cc

pub limit_below : (tree : Members) → Sound tree (record { 0 = field.Limit; 1 = shape.UserLimit; 2 = need.Always }) → HasBelow 256 field.Limit tree
limit_below tree sound =
    let v = value_of tree (record { 0 = field.Limit; 1 = shape.UserLimit; 2 = need.Always }) (in_field field.Limit tree) refl refl sound in
    limit_cases tree v.value (natural v.value) v.found refl v.within

-- ---- the access and the limit of a channel

access_small : (n : ℕ) → is_access n ≡ true → n < 64
access_small n is = let (low, mode) = and_parts (nat_lt n 64) (has_mode n) is in grind (arith, nat_tests)

access_cases : (tree : Members) (d : Data) (o : Option ℕ) → in_field field.Access tree ≡ Some d → natural d ≡ o → not (passes is_access o) ≡ false → HasBelow 64 field.Access tree
access_cases tree d (Some n) found is within = (n, (rw (found, is), access_small n (not_false (is_access n) within)))
access_cases tree d None found is within = cc

-- the access that a step has
pub access_given : (tree : Members) (o : Option Data) → in_field field.Access tree ≡ o → is_some o ≡ true
    → Sound tree (record { 0 = field.Access; 1 = shape.Access; 2 = need.WithoutLimit }) → HasBelow 64 field.Access tree
access_given tree (Some d) found some sound = access_cases tree d (natural d) found refl (rw found at sound.within)
access_given tree None found some sound = cc

-- a step without a limit has one
pub access_needed : (tree : Members) → in_field field.Limit tree ≡ None
    → Sound tree (record { 0 = field.Access; 1 = shape.Access; 2 = need.WithoutLimit }) → HasBelow 64 field.Access tree
access_needed tree none sound =
    let needed : is_needed tree need.WithoutLimit ≡ true = ap is_none none in
    let v = value_of tree (record { 0 = field.Access; 1 = shape.Access; 2 = need.WithoutLimit }) (in_field field.Access tree) refl needed sound in
    access_given tree (Some v.value) v.found refl sound

most_small : (n : ℕ) → is_privilege n ≡ true → n < 64
most_small n is = let (low, high) = and_parts (nat_le least_privilege n) (nat_le n most_privilege) is in grind (arith, nat_tests)

most_cases : (tree : Members) (d : Data) (o : Option ℕ) → in_field field.Limit tree ≡ Some d → natural d ≡ o → not (passes is_privilege o) ≡ false → HasBelow 64 field.Limit tree
most_cases tree d (Some n) found is within = (n, (rw (found, is), most_small n (not_false (is_privilege n) within)))
most_cases tree d None found is within = cc

-- the limit that a step has
pub limit_given : (tree : Members) (o : Option Data) → in_field field.Limit tree ≡ o → is_some o ≡ true
    → Sound tree (record { 0 = field.Limit; 1 = shape.Number least_privilege most_privilege; 2 = need.Never }) → HasBelow 64 field.Limit tree
limit_given tree (Some d) found some sound = most_cases tree d (natural d) found refl (rw found at sound.within)
limit_given tree None found some sound = cc
