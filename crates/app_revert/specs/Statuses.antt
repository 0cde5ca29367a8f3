-- How a call ends that takes back.
use Rattle.std.specs.Prelude.{Bool, true, false}
use Rattle.app_base.specs.declared.status.Status.{Status}
use Rattle.app_base.specs.declared.status.Status.TheVariants as status
use Rattle.app_apply.specs.declared.outcome.Outcome.{Outcome}
use Rattle.app_apply.specs.Statuses.{status_of}

-- by what came of it, and by what the looks told behind it: that a record isn't as before, or that one couldn't be looked at
abbrev pub status_behind : Outcome → (differs unseen : Bool) → Status
status_behind came true unseen = status.Halted
status_behind came false true = status.Unsettled
status_behind came false false = status_of came
