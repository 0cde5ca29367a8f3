-- How faults of a board file are named: NAME TABLE [ITEM] FIELD.
use Rattle.std.specs.Prelude.{ℕ, List, ◌++◌, codes}
use Rattle.std.specs.Fmt.{decimal}
use Rattle.text_board.specs.declared.fault.Item.{Item}
use Rattle.text_board.specs.declared.fault.Item.TheVariants as item
use Rattle.text_board.specs.declared.fault.Place.{Place}
use Rattle.text_board.specs.declared.fault.FileFault.{FileFault}
use Rattle.text_board.specs.declared.fault.FileFault.TheVariants as fault
use Rattle.text_fields.specs.Words.{word}

-- a table and, of an array, the item from 0
abbrev pub item_name : Item → List ℕ
item_name item.Top = codes "top"
item_name item.Device = codes "device"
item_name (item.Sensor place) = codes "sensor " ++ decimal place
item_name (item.Channel place) = codes "channel " ++ decimal place
item_name (item.Attribute place) = codes "attribute " ++ decimal place
item_name (item.State place) = codes "state " ++ decimal place
item_name (item.Numeric place) = codes "numeric " ++ decimal place
item_name (item.Lan place) = codes "lan " ++ decimal place

-- an item and the key of its field
abbrev pub place_name : Place → List ℕ
place_name place = item_name place.item ++ (codes " " ++ word place.field)

-- a fault and its place
abbrev pub fault_name : FileFault → List ℕ
fault_name fault.Memory = codes "Memory"
fault_name fault.Text = codes "Text"
fault_name (fault.Missing place) = codes "Missing " ++ place_name place
fault_name (fault.WrongType place) = codes "WrongType " ++ place_name place
fault_name (fault.Range place) = codes "Range " ++ place_name place
fault_name (fault.Twice place) = codes "Twice " ++ place_name place
