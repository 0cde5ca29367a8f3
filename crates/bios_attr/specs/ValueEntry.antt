-- Value entries (DSP0247): an attribute's handle, its type, and its value.
use Rattle.std.specs.Prelude.{ℕ, ◌+◌, ◌%◌, ◌<◌, nat_le, List, ◌∷◌, ◌++◌, slice_index, Bool, if◌then◌else◌, Option, None}
use Rattle.std.specs.Option.{option_map}
use Rattle.record_base.specs.AttributeValue.{two_bytes, number_of, type_of_value, value_bytes, value_in}
use Rattle.bios_attr.specs.declared.value_entry.ValueEntry.{ValueEntry}

-- what is added to the type of an attribute that can only be read
abbrev pub read_only_bit : ℕ
read_only_bit = 0x80

-- a type as it stands in an entry
abbrev pub shown_type : Bool → ℕ → ℕ
shown_type read_only code = if read_only then read_only_bit + code else code

-- an entry's bytes
abbrev pub entry_bytes : ValueEntry → List ℕ
entry_bytes entry = two_bytes entry.attribute ++ shown_type entry.read_only (type_of_value entry.value) ∷ value_bytes entry.value

-- they are bytes
abbrev pub IsByteList : List ℕ → Type 0
IsByteList bytes = (place : ℕ) → slice_index bytes place < 256

-- the entry that the bytes are, if they are one
abbrev pub entry_in : List ℕ → Option ValueEntry
entry_in (low ∷ high ∷ code ∷ bytes) = option_map (λ v. record { attribute = number_of low high; read_only = nat_le read_only_bit code; value = v }) (value_in (code % read_only_bit) bytes)
entry_in _ = None
