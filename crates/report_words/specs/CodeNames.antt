-- What completion codes are called, in the standards' terms (IPMI 2.0, table 5-2; DSP0240).
use Rattle.std.specs.Prelude.{ℕ, ◌==◌, nat_le, ◌&&◌, List, [], ◌++◌, Option, Some, None, if◌then◌else◌, codes}
use Rattle.model_undo.specs.PhaseNames.{two_digits}
use Rattle.two_wire.specs.declared.bus.Bus.{Bus}
use Rattle.two_wire.specs.declared.bus.Bus.TheVariants.{Ipmb, Smbus}

-- the codes of IPMI that all commands have in common
abbrev pub ipmi_common : ℕ → Option (List ℕ)
ipmi_common code =
    if code == 0x00 then Some (codes "completed")
    else (if code == 0xC0 then Some (codes "node busy")
    else (if code == 0xC1 then Some (codes "invalid command")
    else (if code == 0xC2 then Some (codes "invalid for this LUN")
    else (if code == 0xC3 then Some (codes "timeout")
    else (if code == 0xC4 then Some (codes "out of space")
    else (if code == 0xC5 then Some (codes "reservation cancelled")
    else (if code == 0xC6 then Some (codes "data truncated")
    else (if code == 0xC7 then Some (codes "length of data invalid")
    else (if code == 0xC8 then Some (codes "data too long")
    else (if code == 0xC9 then Some (codes "parameter out of range")
    else (if code == 0xCA then Some (codes "can't return so many bytes")
    else (if code == 0xCB then Some (codes "not present")
    else (if code == 0xCC then Some (codes "invalid data field")
    else (if code == 0xCD then Some (codes "illegal for this sensor or record")
    else (if code == 0xCE then Some (codes "no response could be given")
    else (if code == 0xCF then Some (codes "duplicated request")
    else (if code == 0xD0 then Some (codes "SDR repository in update mode")
    else (if code == 0xD1 then Some (codes "firmware in update mode")
    else (if code == 0xD2 then Some (codes "initialization in progress")
    else (if code == 0xD3 then Some (codes "destination unavailable")
    else (if code == 0xD4 then Some (codes "insufficient privilege")
    else (if code == 0xD5 then Some (codes "not supported in this state")
    else (if code == 0xD6 then Some (codes "disabled")
    else (if code == 0xFF then Some (codes "unspecified error")
    else None))))))))))))))))))))))))

-- the codes of IPMI: 80h to BEh are those of each command
abbrev pub ipmi_name : ℕ → Option (List ℕ)
ipmi_name code =
    if nat_le 0x80 code && nat_le code 0xBE then Some (codes "particular to a command") else ipmi_common code

-- the codes of PLDM that all commands have in common
abbrev pub pldm_common : ℕ → Option (List ℕ)
pldm_common code =
    if code == 0x00 then Some (codes "success")
    else (if code == 0x01 then Some (codes "error")
    else (if code == 0x02 then Some (codes "invalid data")
    else (if code == 0x03 then Some (codes "invalid length")
    else (if code == 0x04 then Some (codes "not ready")
    else (if code == 0x05 then Some (codes "unsupported command")
    else (if code == 0x20 then Some (codes "invalid type")
    else None))))))

-- the codes of PLDM: from 80h on they are those of each command
abbrev pub pldm_name : ℕ → Option (List ℕ)
pldm_name code = if nat_le 0x80 code then Some (codes "particular to a command") else pldm_common code

-- the code of a reply on the bus: of IPMI on IPMB, of PLDM on SMBus
abbrev pub code_name : Bus → ℕ → Option (List ℕ)
code_name Ipmb = ipmi_name
code_name Smbus = pldm_name

-- a blank and the name, where there is one
abbrev pub name_behind : Option (List ℕ) → List ℕ
name_behind (Some name) = codes " " ++ name
name_behind None = []

-- the code's number in two hexadecimal digits, and its name where it has one
abbrev pub code_words : Bus → ℕ → List ℕ
code_words bus code = two_digits code ++ (codes "h" ++ name_behind (code_name bus code))
