-- The requests of a look: every board stays what it was, whatever its port did before, but for a reservation, which is no record.
use Rattle.std.specs.Prelude.{◌≡◌, ◌⊎◌, ℕ, List, false, Some}
use Rattle.record_base.specs.declared.key.Key.{Key}
use Rattle.record_base.specs.declared.message.Asked.{Asked}
use Rattle.record_base.specs.declared.message.Asked.TheVariants.{Ipmi, Pldm}
use Rattle.cfg_records.specs.declared.board_file.BoardFile.{BoardFile}
use Rattle.bmc_board.specs.State.{State}
use Rattle.bmc_board.specs.Answer.{answer_of}
use Rattle.bmc_board.specs.Decode.{sent_by}
use Rattle.bmc_board.specs.Table.{is_changing}
use Rattle.bmc_core.specs.Values.{Value, Asks, Part, IsFrameOn}
use Rattle.bmc_core.specs.PortSteps.{PortState, hears}
use Rattle.undo_plans.specs.declared.names.Names.{Names}
use Rattle.undo_plans.specs.declared.undo_list.NextNumbers.{NextNumbers}
use Rattle.undo_look.specs.declared.target.TablePart.{TablePart}
use Rattle.undo_look.specs.declared.target.Target.TheVariants.{Record}
use Rattle.undo_look.specs.Targets.{part_request}
use Rattle.undo_look.specs.Requests.{IsLookFrame, bus_of, get_at, packet_of, request_of}

-- the request is one of the Get of some record: the first, or one for a part
abbrev pub IsGet : Asked → Type 0
IsGet asked = (key : Key) × (part : ℕ) × (get_at (Record key) part ≡ Some asked)

-- the request is for a part of one of the controller's own tables
abbrev pub IsForTable : Asked → Type 0
IsForTable asked = (part : TablePart) × (part_request part ≡ asked)

-- the request is one of a look
abbrev pub IsOfLook : Asked → Type 0
IsOfLook asked = IsGet asked ⊎ IsForTable asked

-- the request under the next number of its bus, as it goes over the bus
abbrev pub look_value : Names → NextNumbers → Asked → Value
look_value names next (Ipmi from net_fn lun command body) = Asks (request_of names next.ipmb net_fn lun command body)
look_value names next (Pldm from kind command body) = Part (packet_of names next.smbus kind command body)

pub record LooksSetNothing : Type 0 where
  -- every board stays what it was behind a Get, whoever asks
  pub same : (setup : BoardFile) (before : State) (asked : Asked) (from : ℕ) → IsGet asked → (answer_of setup before (sent_by from asked)).1 ≡ before
  -- and each of its records behind any request of a look
  pub records : (setup : BoardFile) (before : State) (asked : Asked) (from : ℕ) → IsOfLook asked → (answer_of setup before (sent_by from asked)).1.records ≡ before.records
  -- its command sets no configuration
  pub quiet : (asked : Asked) (from : ℕ) → IsOfLook asked → is_changing (sent_by from asked) ≡ false
  -- its frame is that of the value
  pub frame : (names : Names) (next : NextNumbers) (asked : Asked) (bytes : List ℕ) → IsOfLook asked
      → IsLookFrame names next asked bytes → IsFrameOn (bus_of asked) (look_value names next asked) bytes
  -- whatever the port did before, and whatever waits at it, it leaves the board what it was behind a Get
  pub left : (setup : BoardFile) (port : PortState) (before : State) (names : Names) (next : NextNumbers) (asked : Asked) → IsGet asked
      → (hears setup port before (look_value names next asked)).board ≡ before
  -- and each of its records behind any request of a look
  pub records_left : (setup : BoardFile) (port : PortState) (before : State) (names : Names) (next : NextNumbers) (asked : Asked) → IsOfLook asked
      → (hears setup port before (look_value names next asked)).board.records ≡ before.records
