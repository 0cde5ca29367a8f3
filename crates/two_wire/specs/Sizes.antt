-- How many bytes a frame and a message have at most (IPMB 1.0; DSP0240: a PLDM header has three).
use Rattle.std.specs.Prelude.{ℕ}

-- a frame of either bus has room for so many
abbrev pub most_frame_bytes : ℕ
most_frame_bytes = 80

-- a frame of IPMB
abbrev pub most_ipmb_bytes : ℕ
most_ipmb_bytes = 32

-- the data of an IPMI request: a frame has seven bytes beside them
abbrev pub most_ipmi_request_data : ℕ
most_ipmi_request_data = 25

-- the data of an IPMI reply, behind the completion code
abbrev pub most_ipmi_reply_data : ℕ
most_ipmi_reply_data = 24

-- a message in packets, with the byte of its type: no longer one is taken
abbrev pub most_message_bytes : ℕ
most_message_bytes = 256

-- the data of a PLDM request: a message has the byte of its type and the header beside them
abbrev pub most_pldm_request_data : ℕ
most_pldm_request_data = 252

-- the data of a PLDM reply, behind the completion code
abbrev pub most_pldm_reply_data : ℕ
most_pldm_reply_data = 251
