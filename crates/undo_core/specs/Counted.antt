-- How many of a manager's requests were answered, as its machine counts them.
use Rattle.std.specs.Prelude.{◌≡◌, ℕ, ◌%◌, true, List, [], ◌∷◌, map}
use Rattle.std.specs.List.{AllZip}
use Rattle.record_base.specs.declared.message.Asked.{Asked}
use Rattle.record_base.specs.declared.message.Asked.TheVariants.{Ipmi, Pldm}
use Rattle.undo_plans.specs.declared.names.Names.{Names}
use Rattle.model_undo.specs.Machine.{Counts as MachineCounts, count_of}
use Rattle.bmc_core.specs.Wires.{bus_of}
use Rattle.bmc_core.specs.Values.{Value, written, IsFrameOn}
use Rattle.mctp_net.specs.declared.packet.Envelope.{Envelope}
use Rattle.two_wire.specs.Circles.{tags}
use Rattle.model_lab.specs.ManagerSteps.{values_of}
use Rattle.undo_core.specs.declared.sending.Counts.{Counts}

-- the machine's counts
abbrev pub counts_of : Counts → MachineCounts
counts_of counts = record { ipmb = counts.ipmb; smbus = counts.smbus }

-- the frames of the request that follows so many
abbrev pub values_at : Names → Counts → Asked → List Value
values_at names counts asked = values_of names (count_of (bus_of asked) (counts_of counts)) asked

-- these are the frames of the request that follows so many, and a reader of each frame gives its value
pub record AreFramesOf (names : Names) (counts : Counts) (asked : Asked) (frames : List (List ℕ)) : Type 0 where
  pub written_as : frames ≡ map written (values_at names counts asked)
  pub read : AllZip (IsFrameOn (bus_of asked)) (values_at names counts asked) frames

-- this is the frame of the IPMI request that follows so many, whoever sends the request
abbrev pub IsIpmiFrame : Names → Counts → (net_fn lun command : ℕ) → (body frame : List ℕ) → Type 0
IsIpmiFrame names counts net_fn lun command body frame = (from : ℕ) → AreFramesOf names counts (Ipmi from net_fn lun command body) (frame ∷ [])

-- these are the frames of the PLDM request that follows so many, whoever sends the request
abbrev pub ArePldmFrames : Names → Counts → (kind command : ℕ) → (body : List ℕ) → (frames : List (List ℕ)) → Type 0
ArePldmFrames names counts kind command body frames = (from : ℕ) → AreFramesOf names counts (Pldm from kind command body) frames

-- the sender, the receiver and the tag of the message of the request on SMBus that follows so many
abbrev pub envelope_at : Names → Counts → Envelope
envelope_at names counts = record {
  destination = names.peer_wire;
  source = names.own_wire;
  destination_eid = names.peer_eid;
  source_eid = names.own_eid;
  tag_owner = true;
  tag = counts.smbus % tags;
}
