-- Requests to effecters (DSP0248).
use Rattle.std.specs.Prelude.{ℕ, ◌+◌, ◌*◌, ◌/◌, ◌%◌, List, [], ◌∷◌, Bool, if◌then◌else◌}
use Rattle.record_base.specs.declared.message.Asked.{Asked}
use Rattle.record_base.specs.Requests.{platform, pldm_request, byte_at}

-- the request of platform monitoring and control with this command and data, without a sender
abbrev pub effecter_request : ℕ → List ℕ → Asked
effecter_request command body = pldm_request platform command body

-- the bytes of an effecter's id, the low byte first
abbrev pub id_bytes : ℕ → List ℕ
id_bytes id = id % 256 ∷ id / 256 ∷ []

-- the id in the first two bytes of a request's data
abbrev pub id_in : List ℕ → ℕ
id_in body = byte_at body 0 + 256 * byte_at body 1

-- the operational state of an effecter that is enabled, without a pending update, and of one that is disabled
abbrev pub enabled_state : ℕ
enabled_state = 1

abbrev pub operational_state : Bool → ℕ
operational_state enabled = if enabled then enabled_state else 2
