-- What the commands of the system boot options ask for.
use Rattle.std.specs.Prelude.{ℕ, List, [], Result, Ok, Err}
use Rattle.record_base.specs.declared.key.Key.TheVariants as key
use Rattle.record_base.specs.declared.op.Op.TheVariants as op
use Rattle.watch_boot.specs.declared.boot_request.BootRequest.{BootRequest}
use Rattle.watch_boot.specs.declared.boot_request.BootRequest.TheVariants.{Progress, Param}
use Rattle.watch_boot.specs.declared.boot_request.BootShown.{BootShown}
use Rattle.watch_boot.specs.declared.boot_request.BootShown.TheVariants as shown
use Rattle.watch_boot.specs.BootRequests.{boot_request_in, boot_shown_in}
use Rattle.bmc_board.specs.declared.live.LiveCommand.TheVariants as live
use Rattle.bmc_board.specs.Asks.{Request}
use Rattle.bmc_board.specs.Asks.{Live, Get, Set}

-- a record, or parameter 0, of which a live command has the byte, and no further data
abbrev pub boot_set : Result BootRequest ℕ → Result Request ℕ
boot_set (Ok (Progress byte)) = Ok (Live (live.SetBootProgress byte) [])
boot_set (Ok (Param change)) = Ok (Set (op.BootParam change))
boot_set (Err code) = Err code

abbrev pub boot_get : Result BootShown ℕ → Result Request ℕ
boot_get (Ok shown.Progress) = Ok (Live live.GetBootProgress [])
boot_get (Ok (shown.Param parameter)) = Ok (Get (key.BootParam parameter))
boot_get (Err code) = Err code

-- what a Set with this data asks for
abbrev pub boot_set_asked : List ℕ → Result Request ℕ
boot_set_asked body = boot_set (boot_request_in body)

-- and a Get
abbrev pub boot_get_asked : List ℕ → Result Request ℕ
boot_get_asked body = boot_get (boot_shown_in body)
