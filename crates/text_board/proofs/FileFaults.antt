-- The faults of a board file.
use Rattle.std.proofs.Common.{◌≡◌, [], map, Some, refl}
use Rattle.toml.specs.Data.{Members}
use Rattle.text_fields.proofs.First.{first-append}
use Rattle.text_fields.proofs.Rows.{both_empty}
use Rattle.text_fields.specs.declared.field.Field.TheVariants as field
use Rattle.text_board.specs.declared.tables.TheConstants.{TOP, DEVICE}
use Rattle.text_board.specs.declared.fault.FileFault.{FileFault}
use Rattle.text_board.specs.declared.fault.Item.TheVariants as item
use Rattle.text_fields.specs.Trees.{table_in, members_in}
use Rattle.text_fields.specs.Faults.{field_faults, first}
use Rattle.text_board.specs.Faults.{fault_at, record_faults, sensor_faults, channel_faults, users_in, lan_faults, attribute_faults, state_faults, numeric_faults, own_part_faults, ipmi_faults, pldm_faults, board_faults}

-- ---- sensor data records and `[device]`

module _ (tree : Members) where
  pub records_first : (why : FileFault) → first (record_faults (members_in field.Sdr tree)) ≡ Some why → first (own_part_faults tree) ≡ Some why
  unfolding own_part_faults
  records_first why is = first-append _ _ why is

  pub device_first : (why : FileFault) → record_faults (members_in field.Sdr tree) ≡ [] → first (map (fault_at item.Device) (field_faults DEVICE (table_in field.Device tree))) ≡ Some why → first (own_part_faults tree) ≡ Some why
  unfolding own_part_faults
  device_first why records is = rw records is

  pub no_own_faults : record_faults (members_in field.Sdr tree) ≡ [] → field_faults DEVICE (table_in field.Device tree) ≡ [] → own_part_faults tree ≡ []
  unfolding own_part_faults
  no_own_faults records device = rw (records, device) refl

-- ---- the items that a protocol reaches

module _ (tree : Members) (why : FileFault) where
  pub sensors_first : first (sensor_faults (members_in field.Sensor tree)) ≡ Some why → first (ipmi_faults tree) ≡ Some why
  unfolding ipmi_faults
  sensors_first is = first-append _ _ why is

  pub channels_first : sensor_faults (members_in field.Sensor tree) ≡ [] → first (channel_faults (users_in tree) (members_in field.Channel tree)) ≡ Some why → first (ipmi_faults tree) ≡ Some why
  unfolding ipmi_faults
  channels_first sensors is = rw sensors (first-append _ _ why is)

  pub lans_first : sensor_faults (members_in field.Sensor tree) ≡ [] → channel_faults (users_in tree) (members_in field.Channel tree) ≡ [] → first (lan_faults tree) ≡ Some why → first (ipmi_faults tree) ≡ Some why
  unfolding ipmi_faults
  lans_first sensors channels is = rw (sensors, channels) is

  pub attributes_first : first (attribute_faults (members_in field.Attribute tree)) ≡ Some why → first (pldm_faults tree) ≡ Some why
  unfolding pldm_faults
  attributes_first is = first-append _ _ why is

  pub states_first : attribute_faults (members_in field.Attribute tree) ≡ [] → first (state_faults (members_in field.State tree)) ≡ Some why → first (pldm_faults tree) ≡ Some why
  unfolding pldm_faults
  states_first attributes is = rw attributes (first-append _ _ why is)

  pub effecters_first : attribute_faults (members_in field.Attribute tree) ≡ [] → state_faults (members_in field.State tree) ≡ [] → first (numeric_faults (members_in field.Numeric tree)) ≡ Some why → first (pldm_faults tree) ≡ Some why
  unfolding pldm_faults
  effecters_first attributes states is = rw (attributes, states) is

pub no_ipmi_faults : (tree : Members) → sensor_faults (members_in field.Sensor tree) ≡ [] → channel_faults (users_in tree) (members_in field.Channel tree) ≡ [] → lan_faults tree ≡ [] → ipmi_faults tree ≡ []
unfolding ipmi_faults
no_ipmi_faults tree sensors channels lans = rw (sensors, channels) lans

pub no_channel_faults : (tree : Members) → ipmi_faults tree ≡ [] → channel_faults (users_in tree) (members_in field.Channel tree) ≡ []
unfolding ipmi_faults
no_channel_faults tree none =
    let rest = (both_empty (sensor_faults (members_in field.Sensor tree)) _ none).1 in
    (both_empty (channel_faults (users_in tree) (members_in field.Channel tree)) _ rest).0

pub no_lan_faults : (tree : Members) → ipmi_faults tree ≡ [] → lan_faults tree ≡ []
unfolding ipmi_faults
no_lan_faults tree none =
    let rest = (both_empty (sensor_faults (members_in field.Sensor tree)) _ none).1 in
    (both_empty (channel_faults (users_in tree) (members_in field.Channel tree)) _ rest).1

pub no_pldm_faults : (tree : Members) → attribute_faults (members_in field.Attribute tree) ≡ [] → state_faults (members_in field.State tree) ≡ [] → numeric_faults (members_in field.Numeric tree) ≡ [] → pldm_faults tree ≡ []
unfolding pldm_faults
no_pldm_faults tree attributes states effecters = rw (attributes, states) effecters

-- ---- the whole file

module _ (tree : Members) where
  pub top_first : (why : FileFault) → first (map (fault_at item.Top) (field_faults TOP tree)) ≡ Some why → first (board_faults tree) ≡ Some why
  unfolding board_faults
  top_first why is = first-append _ _ why is

  pub own_first : (why : FileFault) → field_faults TOP tree ≡ [] → first (own_part_faults tree) ≡ Some why → first (board_faults tree) ≡ Some why
  unfolding board_faults
  own_first why top is = rw top (first-append _ _ why is)

  pub ipmi_first : (why : FileFault) → field_faults TOP tree ≡ [] → own_part_faults tree ≡ [] → first (ipmi_faults tree) ≡ Some why → first (board_faults tree) ≡ Some why
  unfolding board_faults
  ipmi_first why top own is = rw (top, own) (first-append _ _ why is)

  pub pldm_first : (why : FileFault) → field_faults TOP tree ≡ [] → own_part_faults tree ≡ [] → ipmi_faults tree ≡ [] → first (pldm_faults tree) ≡ Some why → first (board_faults tree) ≡ Some why
  unfolding board_faults
  pldm_first why top own ipmi is = rw (top, own, ipmi) is

  pub no_faults : field_faults TOP tree ≡ [] → own_part_faults tree ≡ [] → ipmi_faults tree ≡ [] → pldm_faults tree ≡ [] → board_faults tree ≡ []
  unfolding board_faults
  no_faults top own ipmi pldm = rw (top, own, ipmi) pldm
