-- Requests and replies as bytes.
use Rattle.std.specs.Prelude.{◌≡◌, ℕ, ◌+◌, ◌*◌, ◌/◌, ◌%◌, ◌<◌, ◌≤◌, List, [], ◌∷◌, length, slice_index, Bool, nat_lt, nat_le, ◌==◌, ◌&&◌, not, if◌then◌else◌, codes, find, Option, Some, None}
use Rattle.two_wire.specs.Circles.{instances}
use Rattle.two_wire.specs.Sizes.{most_pldm_request_data, most_pldm_reply_data}
use Rattle.pldm_base.specs.declared.message.Header.{Header}
use Rattle.pldm_base.specs.declared.message.PldmRequest.{PldmRequest}
use Rattle.pldm_base.specs.declared.message.PldmReply.{PldmReply}
use Rattle.pldm_base.specs.declared.fault.PldmFault.{PldmFault}
use Rattle.pldm_base.specs.declared.fault.PldmFault.TheVariants as fault
use Rattle.pldm_base.specs.declared.fault.PldmReplyFault.{PldmReplyFault}
use Rattle.pldm_base.specs.declared.fault.PldmReplyFault.TheVariants as reply_fault

-- the fields of less than a byte are in their ranges
pub record IsHeader (h : Header) : Type 0 where
  pub instance : h.instance < instances
  pub pldm_type : h.pldm_type < 64

-- a header and what follows it, by the request bit and the bit that is ignored, with the datagram bit and the version clear
abbrev pub message : ℕ → ℕ → Header → List ℕ → List ℕ
message request ignored h rest = (128 * request + 32 * ignored + h.instance) ∷ h.pldm_type ∷ h.command ∷ rest

-- a request's bytes, with the ignored bit 0
abbrev pub request_bytes : PldmRequest → List ℕ
request_bytes r = message 1 0 r.header r.body

-- all of a reply that stands before its data, with the ignored bit 0
abbrev pub reply_start : Header → ℕ → List ℕ
reply_start h code = message 0 0 h (code ∷ [])

-- a reply's bytes, with the ignored bit 0
abbrev pub reply_bytes : PldmReply → List ℕ
reply_bytes r = message 0 0 r.header (r.code ∷ r.body)

-- the bytes are the request, with this ignored bit
pub record SpellsRequest (ignored : ℕ) (r : PldmRequest) (bytes : List ℕ) : Type 0 where
  pub bit : ignored < 2
  pub header : IsHeader r.header
  pub fits : length r.body ≤ most_pldm_request_data
  pub spelled : bytes ≡ message 1 ignored r.header r.body

-- the bytes are the reply, with this ignored bit
pub record SpellsReply (ignored : ℕ) (r : PldmReply) (bytes : List ℕ) : Type 0 where
  pub bit : ignored < 2
  pub header : IsHeader r.header
  pub fits : length r.body ≤ most_pldm_reply_data
  pub spelled : bytes ≡ message 0 ignored r.header (r.code ∷ r.body)

-- the bytes are the request, whatever the ignored bit is
abbrev pub IsRequest : PldmRequest → List ℕ → Type 0
IsRequest r bytes = (ignored : ℕ) × SpellsRequest ignored r bytes

-- the bytes are the reply, whatever the ignored bit is
abbrev pub IsReply : PldmReply → List ℕ → Type 0
IsReply r bytes = (ignored : ℕ) × SpellsReply ignored r bytes

-- the bytes have the fault: under 3 bytes, a version other than 00b, or request and datagram bit other than 10b
abbrev pub has_fault : List ℕ → PldmFault → Bool
has_fault bytes fault.Short = nat_lt (length bytes) 3
has_fault bytes fault.Version = not (slice_index bytes 1 / 64 == 0)
has_fault bytes fault.NotRequest = not (slice_index bytes 0 / 64 == 2)

-- the faults of a request in their order
abbrev pub faults : List PldmFault
faults = fault.Short ∷ fault.Version ∷ fault.NotRequest ∷ []

-- the bytes have a request's fault, and this is the first
abbrev pub HasFault : List ℕ → Type 0
HasFault bytes = (fault : PldmFault) × (find (has_fault bytes) faults ≡ Some fault)

-- what a fault is called
abbrev pub fault_name : PldmFault → List ℕ
fault_name fault.Short = codes "Short"
fault_name fault.Version = codes "Version"
fault_name fault.NotRequest = codes "NotRequest"

-- the bytes have the fault: under 4 bytes, a version other than 00b, or request and datagram bit other than 00b
abbrev pub has_reply_fault : List ℕ → PldmReplyFault → Bool
has_reply_fault bytes reply_fault.Short = nat_lt (length bytes) 4
has_reply_fault bytes reply_fault.Version = not (slice_index bytes 1 / 64 == 0)
has_reply_fault bytes reply_fault.NotReply = not (slice_index bytes 0 / 64 == 0)

-- the faults of a reply in their order
abbrev pub reply_faults : List PldmReplyFault
reply_faults = reply_fault.Short ∷ reply_fault.Version ∷ reply_fault.NotReply ∷ []

-- the bytes have a reply's fault, and this is the first
abbrev pub HasReplyFault : List ℕ → Type 0
HasReplyFault bytes = (fault : PldmReplyFault) × (find (has_reply_fault bytes) reply_faults ≡ Some fault)

-- the header in a message's first three bytes
abbrev pub header_in : ℕ → ℕ → ℕ → Header
header_in first second command = record { instance = first % instances; pldm_type = second; command = command }

-- the request that the bytes are, if they are one: request and datagram bit 10b, version 00b, at most 252 bytes of data
abbrev pub request_in : List ℕ → Option PldmRequest
request_in (first ∷ second ∷ command ∷ body) =
    if first / 64 == 2 && second / 64 == 0 && nat_le (length body) most_pldm_request_data then Some (record { header = header_in first second command; body = body }) else None
request_in _ = None

-- the reply that the bytes are, if they are one: request and datagram bit 00b, version 00b, at most 251 bytes of data
abbrev pub reply_in : List ℕ → Option PldmReply
reply_in (first ∷ second ∷ command ∷ code ∷ body) =
    if first / 64 == 0 && second / 64 == 0 && nat_le (length body) most_pldm_reply_data then Some (record { header = header_in first second command; code = code; body = body }) else None
reply_in _ = None
