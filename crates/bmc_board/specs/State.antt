-- What requests may change of a board.
use Rattle.std.specs.Prelude.{◌≡◌, false, []}
use Rattle.cfg_records.specs.Records.{Records, records_of}
use Rattle.cfg_records.specs.Boards.{pairs_of}
use Rattle.record_base.specs.Opening.{opening as live_at_opening}
use Rattle.sel_log.specs.Clock.{clock_at}
use Rattle.sel_log.specs.Log.{new_log}
use Rattle.sensor_recs.specs.Sdr.{repository_of}
use Rattle.sensor_recs.specs.Taken.{none_taken}
use Rattle.user_chan.specs.Passwords.{opening_passwords}
use Rattle.cfg_records.specs.declared.board_file.BoardFile.{BoardFile}
use Rattle.bmc_board.specs.declared.activity.Activity.{Activity}
use Rattle.bmc_board.specs.declared.board.Board.{Board}

-- its records, and what isn't configuration
pub record State : Type 0 where
  pub records : Records
  pub activity : Activity

abbrev pub state : Records → Activity → State
state records activity = record { records = records; activity = activity }

-- the state once what isn't configuration became this on the bench, where nobody stages a value
abbrev pub on_bench : State → Activity → State
on_bench before activity = state before.records (record activity { stagings = before.activity.stagings })

-- a board's records, which its store has
abbrev pub records_in : {S : Type 0} {g h : _} → Board S g h → Records
records_in {S} {g} {h} board = h.records board.records.store

-- a board's state
abbrev pub state_of : {S : Type 0} {g h : _} → Board S g h → State
state_of board = state (records_in board) board.activity

-- what isn't configuration, as a board of this file begins: no reading was taken, the log has no record, its clock shows the file's
-- time, no set of boot options is in progress, each user's password is sixteen bytes 00h, and nothing is staged
abbrev pub opening : BoardFile → Activity
opening file = record {
  live = live_at_opening;
  readings = none_taken;
  sdr = repository_of file.sdr.items;
  log = record (new_log file.log.records) { clock = clock_at file.clock };
  boot_progress = false;
  passwords = opening_passwords;
  stagings = [];
}

-- the state of a board of this file that has heard nothing yet
abbrev pub opened : BoardFile → State
opened file = state (records_of (pairs_of file)) (opening file)

-- anything that is no request leaves what was there, and so does a refused request (`Leaves` says which may note an overflow)
abbrev pub IsUnchanged : State → State → Type 0
IsUnchanged before after = after ≡ before
