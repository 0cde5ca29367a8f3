-- The requests that get and set records, and their data.
use Rattle.std.specs.Prelude.{ℕ, zero, suc, List, [], ◌∷◌, slice_index}
use Rattle.record_base.specs.declared.message.Asked.{Asked}
use Rattle.record_base.specs.declared.message.Asked.TheVariants.{Ipmi, Pldm}

-- the network functions of requests (IPMI 2.0)
abbrev pub chassis : ℕ
chassis = 0x00

abbrev pub sensor_event : ℕ
sensor_event = 0x04

abbrev pub application : ℕ
application = 0x06

abbrev pub transport : ℕ
transport = 0x0C

-- the IPMI request of this network function, command and data. It has no sender, and goes to logical unit 0.
abbrev pub ipmi_request : ℕ → ℕ → List ℕ → Asked
ipmi_request net_fn command body = Ipmi 0 net_fn 0 command body

-- the PLDM type of platform monitoring and control (DSP0248)
abbrev pub platform : ℕ
platform = 0x02

-- the PLDM request of this type, command and data. It has no sender.
abbrev pub pldm_request : ℕ → ℕ → List ℕ → Asked
pldm_request kind command body = Pldm 0 kind command body

-- the byte at a place of the data, 00h where it is missing
abbrev pub byte_at : List ℕ → ℕ → ℕ
byte_at body place = slice_index body place

-- so many bytes of the data, from a place on
abbrev pub bytes_at : ℕ → List ℕ → ℕ → List ℕ
bytes_at zero body place = []
bytes_at (suc more) body place = byte_at body place ∷ bytes_at more body (suc place)
