-- The requests that carry steps out, and the step that such a request carries out, by its command: a line for each kind of record.
use Rattle.std.specs.Prelude.{ℕ, ◌+◌, ◌*◌, List, [], ◌∷◌, Option, Some, None, find, ◌==◌, ◌&&◌, Result, Ok, Err}
use Rattle.std.specs.Option.{option_map, option_and_then}
use Rattle.two_wire.specs.declared.Bus.{Bus}
use Rattle.two_wire.specs.declared.Bus.TheVariants.{Ipmb, Smbus}
use Rattle.record_base.specs.declared.op.Op.{Op}
use Rattle.record_base.specs.declared.op.Op.TheVariants as op
use Rattle.record_base.specs.declared.bios_attribute.SetBiosAttribute.{SetBiosAttribute}
use Rattle.record_base.specs.declared.message.Asked.{Asked}
use Rattle.record_base.specs.declared.message.Asked.TheVariants.{Ipmi, Pldm}
use Rattle.sensor_recs.specs as sensor_recs
use Rattle.watch_boot.specs as watch_boot
use Rattle.effecter_recs.specs as effecter_recs
use Rattle.user_chan.specs as user_chan
use Rattle.watch_boot.specs.declared.boot_request.BootRequest.{BootRequest}
use Rattle.watch_boot.specs.declared.boot_request.BootRequest.TheVariants as boot
use Rattle.watch_boot.specs.BootRequests.{boot_request_in}
use Rattle.user_chan.specs.declared.channel_request.ChannelRequest.{ChannelRequest}
use Rattle.user_chan.specs.declared.channel_request.ChannelRequest.TheVariants as channel
use Rattle.user_chan.specs.ChannelRequests.{channel_request_in}
use Rattle.user_chan.specs.declared.lan_request.LanRequest.{LanRequest}
use Rattle.user_chan.specs.declared.lan_request.LanRequest.TheVariants as lan
use Rattle.user_chan.specs.LanRequests.{lan_request_in}
use Rattle.bios_attr.specs.BiosAttribute.{attribute_in}
use Rattle.record_kinds.specs.Limits.{set_asked}
use Rattle.text_journal.specs.declared.step.StepKind.{StepKind}
use Rattle.text_journal.specs.declared.step.StepKind.TheVariants as kind
use Rattle.text_journal.specs.declared.step.RequestHead.{RequestHead}

-- what a request has in front of its data
abbrev pub head_in : Asked → RequestHead
head_in (Ipmi from net_fn lun command body) = record { bus = Ipmb; first = net_fn * 4 + lun; command = command }
head_in (Pldm from kind command body) = record { bus = Smbus; first = kind; command = command }

-- that of the request that carries the step out
abbrev pub head_of : Op → RequestHead
head_of op = head_in (set_asked op)

-- the bytes of a request with these data
abbrev pub head_bytes : RequestHead → List ℕ → List ℕ
head_bytes head body = head.first ∷ head.command ∷ body

-- ---- the commands that set records, on each bus: the network function with logical unit 0 or the type, and the command

pub record SetCommand : Type 0 where
  pub first : ℕ
  pub command : ℕ
  pub kind : StepKind

abbrev pub sets : (first command : ℕ) → StepKind → SetCommand
sets first command kind = record { first = first; command = command; kind = kind }

abbrev pub ipmi_sets : List SetCommand
ipmi_sets =
    sets 0x00 0x06 kind.PowerPolicy ∷
    sets 0x00 0x08 kind.BootParam ∷
    sets 0x10 0x24 kind.Hysteresis ∷
    sets 0x10 0x26 kind.Thresholds ∷
    sets 0x10 0x28 kind.EventEnable ∷
    sets 0x18 0x24 kind.Watchdog ∷
    sets 0x18 0x2E kind.GlobalEnables ∷
    sets 0x18 0x40 kind.ChannelAccess ∷
    sets 0x18 0x43 kind.UserAccess ∷
    sets 0x18 0x45 kind.UserName ∷
    sets 0x30 0x01 kind.LanParam ∷
    []

abbrev pub pldm_sets : List SetCommand
pldm_sets = sets 0x02 0x31 kind.NumericEffecter ∷ sets 0x02 0x39 kind.StateEffecter ∷ sets 0x03 0x07 kind.BiosAttribute ∷ []

abbrev pub kind_at : (first command : ℕ) → List SetCommand → Option StepKind
kind_at first command lines = option_map (λ s. s.kind) (find (λ s. (s.first == first) && (s.command == command)) lines)

abbrev pub sets_on : Bus → List SetCommand
sets_on Ipmb = ipmi_sets
sets_on Smbus = pldm_sets

abbrev pub kind_of : RequestHead → Option StepKind
kind_of head = kind_at head.first head.command (sets_on head.bus)

-- ---- the step that data say

abbrev pub boot_step : Result BootRequest ℕ → Option Op
boot_step (Ok (boot.Param set)) = Some (op.BootParam set)
boot_step _ = None

abbrev pub channel_step : ChannelRequest → Option Op
channel_step (channel.One set) = Some (op.ChannelAccess set)
channel_step _ = None

abbrev pub lan_step : LanRequest → Option Op
lan_step (lan.Param set) = Some (op.LanParam set)
lan_step _ = None

abbrev pub attribute_step : Result SetBiosAttribute ℕ → Option Op
attribute_step (Ok set) = Some (op.BiosAttribute set)
attribute_step (Err code) = None

abbrev pub step_of : StepKind → List ℕ → Option Op
step_of kind.Thresholds body = Some (sensor_recs.ThresholdsKind.reader.op_in body)
step_of kind.Hysteresis body = Some (sensor_recs.HysteresisKind.reader.op_in body)
step_of kind.EventEnable body = Some (sensor_recs.EventEnableKind.reader.op_in body)
step_of kind.PowerPolicy body = Some (watch_boot.PowerPolicyKind.reader.op_in body)
step_of kind.Watchdog body = Some (watch_boot.WatchdogKind.reader.op_in body)
step_of kind.GlobalEnables body = Some (watch_boot.GlobalEnablesKind.reader.op_in body)
step_of kind.BootParam body = boot_step (boot_request_in body)
step_of kind.NumericEffecter body = Some (effecter_recs.NumericKind.reader.op_in body)
step_of kind.StateEffecter body = Some (effecter_recs.StateKind.reader.op_in body)
step_of kind.UserName body = Some (user_chan.UserNamesKind.reader.op_in body)
step_of kind.UserAccess body = Some (user_chan.UserAccessKind.reader.op_in body)
step_of kind.ChannelAccess body = channel_step (channel_request_in body)
step_of kind.BiosAttribute body = attribute_step (attribute_in body)
step_of kind.LanParam body = lan_step (lan_request_in body)

-- the step that a request of this head may carry out with these data
abbrev pub step_named : RequestHead → List ℕ → Option Op
step_named head body = option_and_then (λ kind. step_of kind body) (kind_of head)
