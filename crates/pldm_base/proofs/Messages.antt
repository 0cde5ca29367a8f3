-- Messages as lists.
use Rattle.std.proofs.Common.{◌≡◌, ℕ, ◌+◌, ◌-◌, ◌*◌, ◌/◌, ◌%◌, ◌≤◌, List, ◌∷◌, length, take, drop, get_or, refl, arith, length-take, length-drop}
use Rattle.std.proofs.Math.Seq.{take-length}
use Rattle.two_wire.specs.Circles.{instances}
use Rattle.pldm_base.specs.declared.message.PldmRequest.{PldmRequest}
use Rattle.pldm_base.specs.declared.message.PldmReply.{PldmReply}
use Rattle.pldm_base.specs.Message.{IsRequest, IsReply}

-- a list of three or more is its first three and the rest
front_three : (bytes : List ℕ) → 3 ≤ length bytes → bytes ≡ get_or bytes 0 0 ∷ get_or bytes 1 0 ∷ get_or bytes 2 0 ∷ take (length bytes - 3) (drop 3 bytes)
front_three (a ∷ b ∷ c ∷ rest) long =
    let n : length (a ∷ b ∷ c ∷ rest) - 3 ≡ length rest = omega arith in
    rw (n, take-length) refl
front_three _ long = absurd (omega arith)

-- a list of four or more is its first four and the rest
front_four : (bytes : List ℕ) → 4 ≤ length bytes → bytes ≡ get_or bytes 0 0 ∷ get_or bytes 1 0 ∷ get_or bytes 2 0 ∷ get_or bytes 3 0 ∷ take (length bytes - 4) (drop 4 bytes)
front_four (a ∷ b ∷ c ∷ d ∷ rest) long =
    let n : length (a ∷ b ∷ c ∷ d ∷ rest) - 4 ≡ length rest = omega arith in
    rw (n, take-length) refl
front_four _ long = absurd (omega arith)

-- a request is what its fields are in the bytes
pub request_is : (bytes : List ℕ) (r : PldmRequest) → 3 ≤ length bytes → length bytes ≤ 255
    → get_or bytes 1 0 / 64 ≡ 0 → get_or bytes 0 0 / 64 ≡ 2
    → r.header.instance ≡ get_or bytes 0 0 % instances → r.header.pldm_type ≡ get_or bytes 1 0 → r.header.command ≡ get_or bytes 2 0
    → r.body ≡ take (length bytes - 3) (drop 3 bytes) → IsRequest r bytes
request_is bytes r low high version flags instance pldm_type command body = (
  get_or bytes 0 0 / 32 % 2,
  record {
    bit = omega arith;
    header = record { instance = omega arith; pldm_type = omega arith };
    fits = rw body (omega (arith, length-take (length bytes - 3) (drop 3 bytes), length-drop 3 bytes));
    spelled =
        let first : 128 * 1 + 32 * (get_or bytes 0 0 / 32 % 2) + r.header.instance ≡ get_or bytes 0 0 = omega arith in
        rw (first, pldm_type, command, body) (front_three bytes low);
  },
)

-- a reply is what its fields are in the bytes
pub reply_is : (bytes : List ℕ) (r : PldmReply) → 4 ≤ length bytes → length bytes ≤ 255
    → get_or bytes 1 0 / 64 ≡ 0 → get_or bytes 0 0 / 64 ≡ 0
    → r.header.instance ≡ get_or bytes 0 0 % instances → r.header.pldm_type ≡ get_or bytes 1 0 → r.header.command ≡ get_or bytes 2 0
    → r.code ≡ get_or bytes 3 0 → r.body ≡ take (length bytes - 4) (drop 4 bytes) → IsReply r bytes
reply_is bytes r low high version flags instance pldm_type command code body = (
  get_or bytes 0 0 / 32 % 2,
  record {
    bit = omega arith;
    header = record { instance = omega arith; pldm_type = omega arith };
    fits = rw body (omega (arith, length-take (length bytes - 4) (drop 4 bytes), length-drop 4 bytes));
    spelled =
        let first : 128 * 0 + 32 * (get_or bytes 0 0 / 32 % 2) + r.header.instance ≡ get_or bytes 0 0 = omega arith in
        rw (first, pldm_type, command, code, body) (front_four bytes low);
  },
)
