-- The tables of commands (IPMI 2.0; DSP0240, "GetTID" and "GetPLDMTypes"; DSP0248, commands of effecters; DSP0247, "GetBIOSTable" and commands of BIOS attributes):
-- one line for each command, or for both commands of a plain kind.
use Rattle.std.specs.Prelude.{ℕ, ◌+◌, ◌*◌, List, [], ◌∷◌, ◌++◌, length, Option, Some, None, Bool, true, false, find, nat_le, ◌==◌, ◌&&◌, ◌||◌}
use Rattle.record_base.specs.declared.message.Asked.{Asked}
use Rattle.record_base.specs.declared.message.Asked.TheVariants.{Ipmi, Pldm}
use Rattle.record_base.specs.Requests.{byte_at}
use Rattle.bmc_board.specs.declared.command.Command.{Command}
use Rattle.bmc_board.specs.declared.command.Command.TheVariants as command
use Rattle.record_kinds.specs.declared.limits.PlainKind.{PlainKind}
use Rattle.record_kinds.specs.declared.limits.PlainKind.TheVariants as kind
use Rattle.bmc_board.specs.declared.command.Lengths.{Lengths}
use Rattle.bmc_board.specs.declared.command.Lengths.TheVariants.{Exactly, Between, AtLeast, OneOf, PairsCountedAt}
use Rattle.bmc_board.specs.declared.command.Line.{Line}
use Rattle.bmc_board.specs.declared.live.LiveCommand.TheVariants as live

-- a line stands under a group, which is a network function or a PLDM type, and a command number
pub record TableLine : Type 0 where
  pub group : ℕ
  pub number : ℕ
  pub line : Line

abbrev pub listed : ℕ → ℕ → Lengths → Bool → Command → TableLine
listed group number lengths changing command = record { group = group; number = number; line = record { command = command; lengths = lengths; changing = changing } }

-- the commands that set and get the records of a plain kind: each by its number, with its lengths
abbrev pub set_and_get : ℕ → PlainKind → ℕ → Lengths → ℕ → Lengths → List TableLine
set_and_get group kind set set_lengths get get_lengths = listed group set set_lengths true (command.Set kind) ∷ listed group get get_lengths false (command.Get kind) ∷ []

-- The commands on the power policy are Set Power Restore Policy and Get Chassis Status. Each other kind's have the kind's name in their own.

-- IPMI. Of a plain kind: network function, kind, number and lengths of its Set, number and lengths of its Get. Of another command: network function, number,
-- lengths, whether it sets the configuration, command.
abbrev pub table : List TableLine
table =
    set_and_get 0x00 kind.PowerPolicy 0x06 (Exactly 1) 0x01 (Exactly 0) ++
    set_and_get 0x04 kind.Hysteresis 0x24 (Exactly 4) 0x25 (Exactly 2) ++
    set_and_get 0x04 kind.Thresholds 0x26 (Exactly 8) 0x27 (Exactly 1) ++
    set_and_get 0x04 kind.EventEnable 0x28 (Between 2 6) 0x29 (Exactly 1) ++
    set_and_get 0x06 kind.Watchdog 0x24 (Exactly 6) 0x25 (Exactly 0) ++
    set_and_get 0x06 kind.GlobalEnables 0x2E (Exactly 1) 0x2F (Exactly 0) ++
    set_and_get 0x06 kind.UserAccess 0x43 (Between 3 4) 0x44 (Exactly 2) ++
    set_and_get 0x06 kind.UserName 0x45 (Exactly 17) 0x46 (Exactly 1) ++
    listed 0x00 0x08 (AtLeast 1) true command.SetBootOptions ∷
    listed 0x00 0x09 (Exactly 3) false command.GetBootOptions ∷
    listed 0x04 0x2D (Exactly 1) false (command.Live live.GetSensorReading) ∷
    listed 0x06 0x01 (Exactly 0) false (command.Live live.GetDeviceId) ∷
    listed 0x06 0x04 (Exactly 0) false (command.Live live.GetSelfTestResults) ∷
    listed 0x06 0x22 (Exactly 0) false (command.Live live.ResetWatchdog) ∷
    listed 0x06 0x40 (Exactly 3) true command.SetChannelAccess ∷
    listed 0x06 0x41 (Exactly 2) false command.GetChannelAccess ∷
    listed 0x06 0x47 (OneOf 2 18 22) false (command.Live live.SetUserPassword) ∷
    listed 0x0A 0x20 (Exactly 0) false (command.Live live.GetSdrRepositoryInfo) ∷
    listed 0x0A 0x22 (Exactly 0) false (command.Live live.ReserveSdrRepository) ∷
    listed 0x0A 0x23 (Exactly 6) false (command.Live live.GetSdr) ∷
    listed 0x0A 0x40 (Exactly 0) false (command.Live live.GetSelInfo) ∷
    listed 0x0A 0x42 (Exactly 0) false (command.Live live.ReserveSel) ∷
    listed 0x0A 0x43 (Exactly 6) false (command.Live live.GetSelEntry) ∷
    listed 0x0A 0x44 (Exactly 16) false (command.Live live.AddSelEntry) ∷
    listed 0x0A 0x47 (Exactly 6) false (command.Live live.ClearSel) ∷
    listed 0x0A 0x48 (Exactly 0) false (command.Live live.GetSelTime) ∷
    listed 0x0A 0x49 (Exactly 4) false (command.Live live.SetSelTime) ∷
    listed 0x0C 0x01 (AtLeast 3) true command.SetLanParam ∷
    listed 0x0C 0x02 (Exactly 4) false command.GetLanParam ∷
    []

-- PLDM: the same, with the type in place of the network function
abbrev pub pldm_table : List TableLine
pldm_table =
    set_and_get 0x02 kind.NumericEffecter 0x31 (AtLeast 4) 0x32 (Exactly 2) ++
    set_and_get 0x02 kind.StateEffecter 0x39 (PairsCountedAt 2) 0x3A (Exactly 2) ++
    listed 0x00 0x02 (Exactly 0) false (command.Live live.GetTid) ∷
    listed 0x00 0x04 (Exactly 0) false (command.Live live.GetPldmTypes) ∷
    listed 0x03 0x01 (Exactly 6) false (command.Live live.GetBiosTable) ∷
    listed 0x03 0x07 (AtLeast 6) true command.SetBiosAttribute ∷
    listed 0x03 0x08 (Exactly 7) false command.GetBiosAttribute ∷
    []

abbrev pub line_in : Option TableLine → Option Line
line_in (Some l) = Some l.line
line_in None = None

-- the line of these numbers
abbrev pub line_under : ℕ → ℕ → List TableLine → Option Line
line_under group number lines = line_in (find (λ l. (l.group == group) && (l.number == number)) lines)

abbrev pub line_of : ℕ → ℕ → Option Line
line_of net_fn number = line_under net_fn number table

abbrev pub pldm_line_of : ℕ → ℕ → Option Line
pldm_line_of kind number = line_under kind number pldm_table

-- the data have a length that the command takes
abbrev pub allow : Lengths → List ℕ → Bool
allow (Exactly exact) body = length body == exact
allow (Between least most) body = nat_le least (length body) && nat_le (length body) most
allow (AtLeast least) body = nat_le least (length body)
allow (OneOf first second third) body = (length body == first) || (length body == second) || (length body == third)
allow (PairsCountedAt place) body = length body == 1 + place + 2 * byte_at body place

-- the PLDM types that the controller knows: base, platform monitoring and control, BIOS (DSP0240)
abbrev pub is_pldm_type : ℕ → Bool
is_pldm_type kind = (kind == 0) || (kind == 2) || (kind == 3)

abbrev pub changes : Option Line → Bool
changes (Some line) = line.changing
changes None = false

-- the request's command sets the configuration
abbrev pub is_changing : Asked → Bool
is_changing (Ipmi from net_fn lun number body) = changes (line_of net_fn number)
is_changing (Pldm from kind number body) = changes (pldm_line_of kind number)
