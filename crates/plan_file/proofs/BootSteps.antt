-- What a step for a boot parameter has in its fields.
use Rattle.std.proofs.Common.{◌≡◌, ℕ, zero, suc, ◌≤◌, nat_le, true, Option, Some, None, option_and_then, refl, ap, arith}
use Rattle.std.proofs.lemmas.Bool.{and_parts}
use Rattle.std.proofs.lemmas.Bool.Decides.{nat_tests}
use Rattle.record_base.specs.declared.boot_param.BootParameter.{BootParameter}
use Rattle.record_base.specs.declared.boot_param.BootParameter.TheVariants.{ValidBitClearing, InfoAcknowledge, Flags}
use Rattle.record_base.specs.BootParam.{selector, parameter_at}
use Rattle.toml.specs.Data.{Data, Members}
use Rattle.text_fields.specs.declared.field.Field.TheVariants as field
use Rattle.text_fields.specs.declared.row.Shape.TheVariants as shape
use Rattle.text_fields.specs.declared.row.Need.TheVariants as need
use Rattle.text_fields.specs.Trees.{in_field, natural, number_in}
use Rattle.text_fields.specs.Ranges.{passes, is_between, are_boot_data, parameter_in, is_in_range}
use Rattle.text_fields.proofs.Rows.{Sound, value_of, not_false}

-- the boot parameter that a step names
pub record Named (tree : Members) : Type 0 where
  pub parameter : BootParameter
  pub found : parameter_in tree ≡ Some parameter
  pub number : number_in field.Param tree ≡ Some (selector parameter)

number_cases : (tree : Members) (n : ℕ) → number_in field.Param tree ≡ Some n → is_between 3 5 n ≡ true → Named tree
number_cases tree zero has within = cc
number_cases tree (suc zero) has within = cc
number_cases tree (suc (suc zero)) has within = cc
number_cases tree (suc (suc (suc zero))) has within = record { parameter = ValidBitClearing; found = ap (option_and_then parameter_at) has; number = has }
number_cases tree (suc (suc (suc (suc zero)))) has within = record { parameter = InfoAcknowledge; found = ap (option_and_then parameter_at) has; number = has }
number_cases tree (suc (suc (suc (suc (suc zero))))) has within = record { parameter = Flags; found = ap (option_and_then parameter_at) has; number = has }
number_cases tree (suc (suc (suc (suc (suc (suc n)))))) has within =
    let m : ℕ = suc (suc (suc (suc (suc (suc n))))) in
    let (low, high) = and_parts (nat_le 3 m) (nat_le m 5) within in
    let most : m ≤ 5 = grind (arith, nat_tests) in
    absurd (omega arith)

value_cases : (tree : Members) (d : Data) (o : Option ℕ) → in_field field.Param tree ≡ Some d → natural d ≡ o → passes (is_between 3 5) o ≡ true → Named tree
value_cases tree d (Some n) found is within = number_cases tree n (rw (found, is)) within
value_cases tree d None found is within = cc

pub named_in : (tree : Members) → Sound tree (record { 0 = field.Param; 1 = shape.Number 3 5; 2 = need.Always }) → Named tree
named_in tree sound =
    let v = value_of tree (record { 0 = field.Param; 1 = shape.Number 3 5; 2 = need.Always }) (in_field field.Param tree) refl refl sound in
    value_cases tree v.value (natural v.value) v.found refl v.within

-- data that the step gives are the parameter's
pub data_there : (tree : Members) (d : Data) (p : BootParameter) → Sound tree (record { 0 = field.BootData; 1 = shape.BootData; 2 = need.Never })
    → in_field field.BootData tree ≡ Some d → parameter_in tree ≡ Some p → are_boot_data p d ≡ true
data_there tree d p sound has named =
    let within : is_in_range tree shape.BootData d ≡ true = not_false (is_in_range tree shape.BootData d) (rw has at sound.within) in
    rw named at within
