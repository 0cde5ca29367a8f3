-- How many bytes of data a request has that undoes a step.
use Rattle.std.specs.Prelude.{ℕ, ◌+◌, ◌≤◌, List, length, if◌then◌else◌}
use Rattle.two_wire.specs.Sizes.{most_ipmi_request_data, most_pldm_request_data}
use Rattle.record_base.specs.declared.message.Asked.{Asked}
use Rattle.record_base.specs.declared.message.Asked.TheVariants as asked
use Rattle.record_base.specs.AttributeSizes.{most_data}
use Rattle.bios_attr.specs.EntryParts.{before_part, most_entry, is_in_parts}

-- the data of a request
abbrev pub data_of : Asked → List ℕ
data_of (asked.Ipmi from net_fn lun command body) = body
data_of (asked.Pldm from kind command body) = body

-- the same request, from nobody
abbrev pub from_nobody : Asked → Asked
from_nobody (asked.Ipmi from net_fn lun command body) = asked.Ipmi 0 net_fn lun command body
from_nobody (asked.Pldm from kind command body) = asked.Pldm 0 kind command body

-- the most bytes of data of a request that undoes a step over SMBus
abbrev pub most_undo_data : ℕ
most_undo_data = most_data

-- how many requests carry a request out at most: one for each part of the longest entry
abbrev pub most_requests : ℕ
most_requests = 6

-- How many bytes of data a request has at most: those that a message of its bus has, or those before an attribute's entry and the longest entry,
-- where the entry goes in parts.
abbrev pub most_of : Asked → ℕ
most_of (asked.Ipmi from net_fn lun command body) = most_ipmi_request_data
most_of (asked.Pldm from kind command body) = if is_in_parts (asked.Pldm from kind command body) then before_part + most_entry else most_pldm_request_data

-- the request, or each of its parts, fits a message of its bus
abbrev pub FitsMessages : Asked → Type 0
FitsMessages asked = length (data_of asked) ≤ most_of asked
