-- The request that words name by its bytes.
use Rattle.std.specs.Prelude.{◌≡◌, ◌≢◌, ℕ, ◌%◌, ◌<◌, ◌≤◌, List, [], ◌∷◌, length, Option, Ok}
use Rattle.std.specs.List.{AllZip, concat}
use Rattle.hex.specs.Hex.{decode_of}
use Rattle.two_wire.specs.Sizes.{most_ipmi_request_data, most_pldm_request_data}
use Rattle.two_wire.specs.declared.Bus.{Bus}
use Rattle.two_wire.specs.declared.Bus.TheVariants.{Ipmb, Smbus}
use Rattle.record_base.specs.declared.message.Asked.{Asked}
use Rattle.bmc_lab.specs.Asked.{MeansBus}
use Rattle.record_base.specs.Requests.{ipmi_request, pldm_request}

-- a word spells these bytes: two hexadecimal digits for each, and there is one
pub record SpellsPart (word bytes : List ℕ) : Type 0 where
  pub spelt : decode_of word ≡ Ok bytes
  pub some : bytes ≢ []

-- the words spell these bytes, one behind another
abbrev pub SpellBytes : (words : List (List ℕ)) → List ℕ → Type 0
SpellBytes words bytes = (parts : List (List ℕ)) × AllZip SpellsPart words parts × (concat parts ≡ bytes)

-- an IPMI request of this network function, which is even, and command, with these data, which a frame has room for
pub record IsIpmiOf (net_fn command : ℕ) (body : List ℕ) (asked : Asked) : Type 0 where
  pub below : net_fn < 64
  pub even : net_fn % 2 ≡ 0
  pub fits : length body ≤ most_ipmi_request_data
  pub is : asked ≡ ipmi_request net_fn command body

-- a PLDM request of this type and command, with these data, which a message has room for
pub record IsPldmOf (kind command : ℕ) (body : List ℕ) (asked : Asked) : Type 0 where
  pub below : kind < 64
  pub fits : length body ≤ most_pldm_request_data
  pub is : asked ≡ pldm_request kind command body

-- the request of these bytes on the bus: the network function or the type, the command, and the data
abbrev pub IsRequestOf : Bus → List ℕ → Asked → Type 0
IsRequestOf Ipmb (first ∷ command ∷ body) asked = IsIpmiOf first command body asked
IsRequestOf Smbus (first ∷ command ∷ body) asked = IsPldmOf first command body asked
IsRequestOf _ _ asked = ⊥

-- the words name the request: the bus by its name, or IPMB where it is left out, and the request by its bytes
pub record AsksForRequest (word : Option (List ℕ)) (words : List (List ℕ)) (asked : Asked) : Type 0 where
  pub bus : Bus
  pub means : MeansBus word bus
  pub bytes : List ℕ
  pub spelt : SpellBytes words bytes
  pub request : IsRequestOf bus bytes asked
