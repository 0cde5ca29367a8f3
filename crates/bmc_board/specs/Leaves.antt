-- What a refused request leaves.
use Rattle.std.specs.Prelude.{◌≡◌, ℕ, true, Result, Ok}
use Rattle.two_wire.specs.Codes.{out_of_space}
use Rattle.sel_log.specs.Log.{is_full}
use Rattle.bmc_board.specs.declared.live.LiveCommand.TheVariants as live
use Rattle.bmc_board.specs.Request.{Request}
use Rattle.bmc_board.specs.Request.{Live}
use Rattle.bmc_board.specs.State.{State, IsUnchanged}

-- the same, but that the log says that it overflowed
abbrev pub overflowed : State → State
overflowed before = record before { activity = record before.activity { log = record before.activity.log { overflow = true } } }

-- a full log refuses a record as out of space, and notes that
pub record NotesOverflow (code : ℕ) (before after : State) : Type 0 where
  pub is_out_of_space : code ≡ out_of_space
  pub was_full : is_full before.activity.log ≡ true
  pub left : after ≡ overflowed before

-- a refusal of any request leaves what was there. Add SEL Entry alone is refused because the log is full, and leaves that noted.
abbrev pub RefusalLeaves : Result Request ℕ → ℕ → State → State → Type 0
RefusalLeaves (Ok (Live live.AddSelEntry body)) code before after = NotesOverflow code before after
RefusalLeaves _ code before after = IsUnchanged before after
