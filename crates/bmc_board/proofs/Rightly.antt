-- A test of what is asked for, and of the codes that refuse.
use Rattle.std.proofs.Common.{◌≡◌, ◌≢◌, ℕ, nat_le, Result, Ok, Err, Bool, true, false, not, ◌==◌, ◌&&◌, ◌||◌, refl, arith}
use Rattle.std.proofs.lemmas.Bool.Decides.{nat_tests}
use Rattle.two_wire.specs.Codes.{node_busy, pldm_not_ready}
use Rattle.bmc_board.specs.Asks.{Request}
use Rattle.bmc_board.specs.Asks.{Set, SetStores, PartOfSet}
use Rattle.bmc_board.specs.Room.{longest_reply}
use Rattle.bmc_board.specs.AnyAnswer.{IsCode}

-- the request is no Set
abbrev pub is_quiet : Request → Bool
is_quiet (Set op) = false
is_quiet (SetStores first second) = false
is_quiet (PartOfSet from part) = false
is_quiet _ = true

-- the code isn't a busy controller's
abbrev pub is_code : ℕ → Bool
is_code code = not (code == node_busy) && not (code == pldm_not_ready)

-- a reply to what is asked for fits this room, and a Set is asked for only where the command is a setting one; or such a code refuses
abbrev pub is_right : ℕ → Bool → Result Request ℕ → Bool
is_right room changing (Ok request) = nat_le (longest_reply request) room && (changing || is_quiet request)
is_right room changing (Err code) = is_code code

pub both_right : (a b : Bool) → a ≡ true → b ≡ true → (a && b) ≡ true
both_right true true p q = refl
both_right true false p q = q
both_right false b p q = p

pub both : (a b : Bool) → (a && b) ≡ true → (a ≡ true) × (b ≡ true)
both true true e = (refl, refl)
both true false e = cc
both false b e = cc

differ : (m n : ℕ) → not (m == n) ≡ true → m ≢ n
differ m n p h = grind (arith, nat_tests)

-- a number that the test tells from a busy controller's codes is neither
pub code_of : (code : ℕ) → is_code code ≡ true → IsCode code
code_of code e = let parts = both _ _ e in record { not_busy = differ _ _ parts.0; is_ready = differ _ _ parts.1 }
