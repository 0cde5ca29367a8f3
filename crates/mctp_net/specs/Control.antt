-- What an endpoint answers to control requests.
use Rattle.std.specs.Prelude.{ℕ, ◌/◌, ◌%◌, Bool, nat_lt, nat_le, ◌==◌, ◌&&◌, if◌then◌else◌, List, [], ◌∷◌, Option, Some, None, Result, Ok, Err}
use Rattle.std.specs.Result.{result_unwrap_or}
use Rattle.two_wire.specs.Circles.{instances}
use Rattle.mctp_net.specs.declared.control_fault.ControlFault.{ControlFault}
use Rattle.mctp_net.specs.declared.control_fault.ControlFault.TheVariants.{InvalidData, InvalidLength, UnsupportedCommand}

-- an endpoint may have the identifier
abbrev pub may_be_own : ℕ → Bool
may_be_own eid = nat_le 8 eid && nat_lt eid 255

-- the identifier that the data of Set Endpoint ID gives: an operation in bits 1:0, which 0 and 1 are, and the identifier
abbrev pub taken_eid : List ℕ → Result ℕ ControlFault
taken_eid (operation ∷ eid ∷ []) = if nat_lt (operation % 4) 2 && may_be_own eid then Ok eid else Err InvalidData
taken_eid _ = Err InvalidLength

-- what Set Endpoint ID shows: that the identifier was taken, the identifier, and that no pool is wanted
abbrev pub shown_eid : Result ℕ ControlFault → Result (List ℕ) ControlFault
shown_eid (Ok eid) = Ok (0 ∷ eid ∷ 0 ∷ [])
shown_eid (Err fault) = Err fault

-- what a command without data shows
abbrev pub shown_to : List ℕ → List ℕ → Result (List ℕ) ControlFault
shown_to [] shown = Ok shown
shown_to (x ∷ xs) shown = Err InvalidLength

-- what the endpoint shows for a command and its data: 01h Set Endpoint ID, 02h Get Endpoint ID, 05h Get Message Type
-- Support, which is PLDM's type alone
abbrev pub shown_for : ℕ → ℕ → List ℕ → Result (List ℕ) ControlFault
shown_for eid command content =
    if command == 1 then shown_eid (taken_eid content)
    else if command == 2 then shown_to content (eid ∷ 0 ∷ 0 ∷ [])
    else if command == 5 then shown_to content (1 ∷ 1 ∷ [])
    else Err UnsupportedCommand

-- the endpoint's identifier after a command
abbrev pub eid_after : ℕ → ℕ → List ℕ → ℕ
eid_after eid command content = if command == 1 then result_unwrap_or (taken_eid content) eid else eid

-- the completion code of a fault
abbrev pub code_of : ControlFault → ℕ
code_of InvalidData = 2
code_of InvalidLength = 3
code_of UnsupportedCommand = 5

-- the completion code, and what is shown where it's 0
abbrev pub coded : Result (List ℕ) ControlFault → List ℕ
coded (Ok shown) = 0 ∷ shown
coded (Err fault) = code_of fault ∷ []

-- a request: its instance, its command and the command's data
pub record Request : Type 0 where
  pub instance : ℕ
  pub command : ℕ
  pub content : List ℕ

-- The request that a message's body is: 00h; bit 7 set and bit 6 clear, bit 5 ignored, and the instance in bits 4:0; the
-- command; its data.
abbrev pub request_of : List ℕ → Option Request
request_of (kind ∷ numbers ∷ command ∷ content) =
    if kind == 0 && numbers / 64 == 2 then Some (record { instance = numbers % instances; command = command; content = content }) else None
request_of _ = None

-- the body of the reply to a request
abbrev pub reply_to : ℕ → Request → List ℕ
reply_to eid request = 0 ∷ request.instance ∷ request.command ∷ coded (shown_for eid request.command request.content)
