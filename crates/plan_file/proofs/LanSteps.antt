-- What a step for a LAN parameter has in its fields.
use Rattle.std.proofs.Common.{◌≡◌, true, is_some, Option, Some, None, refl}
use Rattle.toml.specs.Data.{Data, Members}
use Rattle.record_base.specs.declared.lan_parameter.LanParameter.{LanParameter}
use Rattle.text_fields.specs.declared.field.Field.TheVariants as field
use Rattle.text_fields.specs.declared.lan.LanShape.TheVariants as lan_shape
use Rattle.text_fields.specs.declared.row.Shape.TheVariants as shape
use Rattle.text_fields.specs.declared.row.Need.TheVariants as need
use Rattle.text_fields.specs.Trees.{in_field}
use Rattle.text_fields.specs.Lan.{are_lan_data, lan_parameter_in}
use Rattle.text_fields.proofs.Rows.{Sound, value_of, same_value}

-- the LAN parameter that a step names
pub record Named (tree : Members) : Type 0 where
  pub parameter : LanParameter
  pub found : lan_parameter_in tree ≡ Some parameter

some_cases : (tree : Members) (o : Option LanParameter) → lan_parameter_in tree ≡ o → is_some o ≡ true → Named tree
some_cases tree (Some parameter) is some = record { parameter = parameter; found = is }
some_cases tree None is some = cc

pub named_in : (tree : Members) → Sound tree (record { 0 = field.Param; 1 = shape.Lan lan_shape.Parameter; 2 = need.Always }) → Named tree
named_in tree sound =
    let v = value_of tree (record { 0 = field.Param; 1 = shape.Lan lan_shape.Parameter; 2 = need.Always }) (in_field field.Param tree) refl refl sound in
    some_cases tree (lan_parameter_in tree) refl (rw v.found v.within)

-- data that the step gives are the parameter's
pub data_there : (tree : Members) (d : Data) (parameter : LanParameter) → Sound tree (record { 0 = field.BootData; 1 = shape.Lan lan_shape.Named; 2 = need.Always })
    → in_field field.BootData tree ≡ Some d → lan_parameter_in tree ≡ Some parameter → are_lan_data parameter d ≡ true
data_there tree d parameter sound has named =
    let v = value_of tree (record { 0 = field.BootData; 1 = shape.Lan lan_shape.Named; 2 = need.Always }) (in_field field.BootData tree) refl refl sound in
    let same : v.value ≡ d = same_value v.value d (in_field field.BootData tree) v.found has in
    rw (named, same) at v.within
