-- What requesters have staged of entries that come in parts (DSP0247, "SetBIOSAttributeCurrentValue"): one entry a requester, and eight
-- requesters at most.
use Rattle.std.specs.Prelude.{◌≡◌, ℕ, nat_le, List, [], ◌∷◌, ◌++◌, length, find, Bool, not, ◌==◌, if◌then◌else◌, Option, Some, None, Result, Ok, Err}
use Rattle.std.specs.List.{filter}
use Rattle.std.specs.Option.{option_map}
use Rattle.two_wire.specs.Codes.{pldm_error, pldm_invalid_data, pldm_invalid_attribute}
use Rattle.record_base.specs.declared.bios_attribute.SetBiosAttribute.{SetBiosAttribute}
use Rattle.bios_attr.specs.declared.bios_attribute.AttributeLimits.{AttributeLimits}
use Rattle.record_kinds.specs.declared.stagings.Staging.{Staging}
use Rattle.record_kinds.specs.Entries.{first_fault, middle_fault, last_fault, op_of}

-- how many requesters can have a staging at once
abbrev pub most_stagings : ℕ
most_stagings = 8

-- what each requester has staged, the one that was added to last behind the others
abbrev pub StagedParts : Type 0
StagedParts = List Staging

-- a staging is this requester's
abbrev pub is_by : ℕ → Staging → Bool
is_by from staging = staging.from == from

-- what this requester has staged
abbrev pub staged_by : ℕ → StagedParts → Option (List ℕ)
staged_by from stagings = option_map (λ staging. staging.entry) (find (is_by from) stagings)

-- the stagings of others
abbrev pub without : ℕ → StagedParts → StagedParts
without from stagings = filter (λ staging. not (is_by from staging)) stagings

-- this is what the requester has staged, in place of an older one
abbrev pub with_staged : ℕ → List ℕ → StagedParts → StagedParts
with_staged from entry stagings = without from stagings ++ record { from = from; entry = entry } ∷ []

-- ---- the first code that refuses a part

-- the first of two codes
abbrev pub or_else : Option ℕ → Option ℕ → Option ℕ
or_else (Some code) other = Some code
or_else None other = other

-- eight other requesters have a staging
abbrev pub room_fault : StagedParts → ℕ → Option ℕ
room_fault stagings from = if nat_le most_stagings (length (without from stagings)) then Some pldm_error else None

-- of a first part: there is no such attribute; the attribute doesn't take it; there is no room for it
abbrev pub start_fault : Option AttributeLimits → StagedParts → ℕ → List ℕ → Option ℕ
start_fault None stagings from entry = Some pldm_invalid_attribute
start_fault (Some limits) stagings from entry = or_else (first_fault limits entry) (room_fault stagings from)

-- of a later part: the requester has nothing staged; the part isn't the one behind it
abbrev pub later_fault : (List ℕ → Option ℕ) → Option (List ℕ) → Option ℕ
later_fault fault None = Some pldm_invalid_data
later_fault fault (Some staged) = fault staged

abbrev pub add_fault : StagedParts → ℕ → ℕ → List ℕ → Option ℕ
add_fault stagings from handle bytes = later_fault (λ staged. middle_fault staged handle bytes) (staged_by from stagings)

abbrev pub end_fault : StagedParts → ℕ → ℕ → List ℕ → Option ℕ
end_fault stagings from handle bytes = later_fault (λ staged. last_fault staged handle bytes) (staged_by from stagings)

-- ---- what a part makes

-- the value, unless a code refuses it
abbrev pub unless : {X : Type 0} → Option ℕ → X → Result X ℕ
unless (Some code) x = Err code
unless None x = Ok x

-- what is staged, and these bytes behind it
abbrev pub joined : Option (List ℕ) → List ℕ → List ℕ
joined (Some staged) bytes = staged ++ bytes
joined None bytes = bytes

-- what the requester has staged once a first part or one behind it came, or the code that refuses the part
abbrev pub start_outcome : Option AttributeLimits → StagedParts → ℕ → List ℕ → Result (List ℕ) ℕ
start_outcome limits stagings from entry = unless (start_fault limits stagings from entry) entry

abbrev pub add_outcome : StagedParts → ℕ → ℕ → List ℕ → Result (List ℕ) ℕ
add_outcome stagings from handle bytes = unless (add_fault stagings from handle bytes) (joined (staged_by from stagings) bytes)

-- the operation of the whole entry once the last part came, or the code that refuses the part
abbrev pub end_outcome : StagedParts → ℕ → ℕ → List ℕ → Result SetBiosAttribute ℕ
end_outcome stagings from handle bytes = unless (end_fault stagings from handle bytes) (op_of (joined (staged_by from stagings) bytes))

-- how many bytes are staged then, which is the handle of the part behind them
abbrev pub counted : Result (List ℕ) ℕ → Result ℕ ℕ
counted (Ok entry) = Ok (length entry)
counted (Err code) = Err code

-- the stagings then: a refused part changes nothing
abbrev pub after_part : ℕ → Result (List ℕ) ℕ → StagedParts → StagedParts
after_part from (Ok entry) stagings = with_staged from entry stagings
after_part from (Err code) stagings = stagings

-- the reply to a part with this outcome is the handle of the part behind it, and these are the stagings before and after
abbrev pub PartLeaves : ℕ → Result (List ℕ) ℕ → Result ℕ ℕ → StagedParts → StagedParts → Type 0
PartLeaves from outcome reply before after = (reply ≡ counted outcome) × (after ≡ after_part from outcome before)
