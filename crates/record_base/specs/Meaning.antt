-- The words of a kind of record for an operation.
use Rattle.std.specs.Prelude.{◌≢◌, ℕ, ◌+◌, ◌<◌, List, Result, Ok, Err}
use Rattle.two_wire.specs.Codes.{node_busy, pldm_not_ready}
use Rattle.two_wire.specs.Sizes.{most_ipmi_reply_data, most_pldm_reply_data}
use Rattle.record_base.specs.declared.key.Key.{Key}
use Rattle.record_base.specs.declared.key.Key.TheVariants as key
use Rattle.record_base.specs.declared.message.Asked.{Asked}
use Rattle.record_base.specs.declared.message.Asked.TheVariants.{Ipmi, Pldm}
use Rattle.record_base.specs.AttributeSizes.{before_value, most_value}

-- the outcome decides the property: the new value has it, or no value has it
abbrev pub DecidesValue : Result (List ℕ) ℕ → (List ℕ → Type 0) → Type 0
DecidesValue (Ok new) Holds = Holds new
DecidesValue (Err code) Holds = (new : List ℕ) → ¬ Holds new

-- the outcome of a call that writes the new value where it succeeds
abbrev pub value_or_code : {A : Type 0} → Result A ℕ → List ℕ → Result (List ℕ) ℕ
value_or_code (Ok _) new = Ok new
value_or_code (Err code) new = Err code

-- the code of a refusal: a byte that is neither success nor one of the two codes of a busy controller
pub record IsRefusal (code : ℕ) : Type 0 where
  pub is_fault : 0 < code
  pub is_byte : code < 256
  pub not_busy : code ≢ node_busy
  pub is_ready : code ≢ pldm_not_ready

-- how many bytes of data the reply to the request may have: 24 over IPMB, 251 over PLDM
abbrev pub room_for : Asked → ℕ
room_for (Ipmi from net_fn lun command body) = most_ipmi_reply_data
room_for (Pldm from kind command body) = most_pldm_reply_data

-- how many bytes the whole data of a record's Get reply have at most, where this request gets the record: those of an attribute may go in parts, and any
-- other record's fit one reply
abbrev pub most_shown : Key → Asked → ℕ
most_shown (key.BiosAttribute handle) asked = before_value + most_value
most_shown _ asked = room_for asked
