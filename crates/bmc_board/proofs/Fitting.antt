-- Replies fit behind the bytes that are there.
use Rattle.std.specs.Prelude.{Bool, Result, Ok, Err}
use Rattle.std.proofs.Common.{◌≤◌, ◌+◌, ℕ, List, length, arith}
use Rattle.bmc_board.specs.Request.{Request}
use Rattle.bmc_board.specs.Room.{longest_reply}
use Rattle.bmc_board.specs.Serves.{ReplyFits}
use Rattle.bmc_board.proofs.AskedFacts.{IsRight}

-- where there's room for the longest, there is for the reply to what is asked for
pub fits_behind : (r : Result Request ℕ) (room : ℕ) (changing : Bool) (bytes : List ℕ) (capacity : ℕ) → IsRight room changing r → length bytes + room ≤ capacity → ReplyFits r bytes capacity
fits_behind (Ok q) room changing bytes capacity right has = let few : longest_reply q ≤ room = right.0 in omega (arith, few, has)
fits_behind (Err code) room changing bytes capacity right has = tt
