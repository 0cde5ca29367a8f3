-- The values of a board's attributes (DSP0247), as its records have them.
use Rattle.std.specs.Prelude.{ℕ}
use Rattle.record_base.specs.declared.attribute_value.AttributeValue.{AttributeValue}
use Rattle.cfg_records.specs.declared.board_file.BoardFile.{BoardFile}
use Rattle.cfg_records.specs.Records.{Records}
use Rattle.record_kinds.specs.Sound.{AreSoundRecords}
use Rattle.bios_attr.specs.TableContents.{AreValuesOf}
use Rattle.bmc_board.specs.BiosTables.{values_in}

-- where each record has a value that its limits allow, the bytes of each attribute's record are read as a value of its type
abbrev pub AttributesHaveValues : Type 0
AttributesHaveValues = (file : BoardFile) (records : Records) → AreSoundRecords file records → (current : ℕ → AttributeValue) × AreValuesOf file.attributes.items (values_in records) current
