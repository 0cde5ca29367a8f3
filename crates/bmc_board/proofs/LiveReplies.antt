-- A reply of a live command: it is done, or refused.
use Rattle.std.proofs.Common.{◌≤◌, ℕ, List, length, Ok, refl, arith, lit≤}
use Rattle.two_wire.specs.Codes.{success}
use Rattle.cfg_records.specs.Records.{Records}
use Rattle.bmc_board.specs.declared.activity.Activity.{Activity}
use Rattle.bmc_board.specs.declared.live.LiveCommand.{LiveCommand}
use Rattle.bmc_board.specs.declared.live.LiveCommand.TheVariants as live
use Rattle.bmc_board.specs.Asks.{Live}
use Rattle.bmc_board.specs.State.{State, state}
use Rattle.bmc_board.specs.Leaves.{RefusalLeaves}
use Rattle.bmc_board.specs.Replies.{done, refused}
use Rattle.bmc_board.specs.Live.{longest_live_reply, longest_live}
use Rattle.bmc_board.specs.AnyAnswer.{IsCode}
use Rattle.bmc_board.specs.AnyLive.{IsLiveAnswer}
use Rattle.bmc_board.proofs.Rightly.{code_of}

-- any live command's reply may be so long
pub as_long : (command : LiveCommand) → longest_live_reply ≤ longest_live command
as_long live.GetBiosTable = lit≤ tt
as_long _ = lit≤ tt

-- a command that is always carried out
pub is_done : (command : LiveCommand) (asked : List ℕ) (records : Records) (before after : Activity) (body : List ℕ) → length body ≤ longest_live_reply → IsLiveAnswer command asked records before (done body, after)
is_done command asked records before after body short = record { has_code = code_of success refl; short = omega (arith, short, as_long command); left = λ fault. absurd (fault refl) }

-- a refusal of the command leaves the state as it was
abbrev pub Stays : LiveCommand → List ℕ → State → Type 0
Stays command asked before = (code : ℕ) → RefusalLeaves (Ok (Live command asked)) code before before

pub is_refused : (command : LiveCommand) (asked : List ℕ) (records : Records) (before : Activity) (fault : ℕ) → IsCode fault → Stays command asked (state records before) → IsLiveAnswer command asked records before (refused fault, before)
is_refused command asked records before fault is stays = record { has_code = is; short = omega arith; left = λ _. stays fault }
