-- What bytes that are no frame of the bus have wrong (Intelligent Platform Management Bus, communications protocol 1.0).
use Rattle.std.specs.Prelude.{◌≡◌, ℕ, ◌/◌, ◌%◌, ◌≤◌, List, [], ◌∷◌, length, take, drop, slice_index, codes, Bool, nat_lt, ◌==◌, ◌||◌, ◌&&◌, not, find, Some}
use Rattle.two_wire.specs.Check.{check_byte}
use Rattle.two_wire.specs.Sizes.{most_ipmb_bytes}
use Rattle.ipmb_frame.specs.declared.fault.FrameFault.{FrameFault}
use Rattle.ipmb_frame.specs.declared.fault.FrameFault.TheVariants.{Short, Long, HeadSum, BodySum, OddAddress}

-- the netFn, in bits 7:2 of the second byte: odd in a response
abbrev pub net_fn_of : List ℕ → ℕ
net_fn_of bytes = slice_index bytes 1 / 4

-- the bytes have the fault
abbrev pub has_fault : List ℕ → FrameFault → Bool
has_fault bytes Short = nat_lt (length bytes) 7 || (length bytes == 7 && net_fn_of bytes % 2 == 1)
has_fault bytes Long = nat_lt most_ipmb_bytes (length bytes)
has_fault bytes HeadSum = not (check_byte (take 3 bytes) == 0)
has_fault bytes BodySum = not (check_byte (drop 3 bytes) == 0)
has_fault bytes OddAddress = slice_index bytes 0 % 2 == 1 || slice_index bytes 3 % 2 == 1

-- the faults in their order
abbrev pub faults : List FrameFault
faults = Short ∷ Long ∷ HeadSum ∷ BodySum ∷ OddAddress ∷ []

-- the bytes have a fault, and this is the first
abbrev pub HasFault : List ℕ → Type 0
HasFault bytes = (fault : FrameFault) × (find (has_fault bytes) faults ≡ Some fault)

-- the fault's name, as it is printed
abbrev pub fault_name : FrameFault → List ℕ
fault_name Short = codes "Short"
fault_name Long = codes "Long"
fault_name HeadSum = codes "HeadSum"
fault_name BodySum = codes "BodySum"
fault_name OddAddress = codes "OddAddress"

-- the bytes have none of the faults
pub record IsFaultless (bytes : List ℕ) : Type 0 where
  pub least : 7 ≤ length bytes
  pub has_code : net_fn_of bytes % 2 ≡ 1 → 8 ≤ length bytes
  pub most : length bytes ≤ most_ipmb_bytes
  pub head : check_byte (take 3 bytes) ≡ 0
  pub body : check_byte (drop 3 bytes) ≡ 0
  pub first : slice_index bytes 0 % 2 ≡ 0
  pub second : slice_index bytes 3 % 2 ≡ 0
