-- What is said of a play in one way.
use Rattle.std.specs.Prelude.{◌≡◌, ℕ, List}
use Rattle.app_play.specs.declared.inputs.Inputs.{Inputs}
use Rattle.app_base.specs.declared.console.Stream.{Stream}
use Rattle.app_base.specs.declared.status.Status.{Status}
use Rattle.app_base.specs.Ending.{Saying}
use Rattle.app_play.specs.Run.{Telling}

-- it says one text of inputs, and one status
abbrev pub OneText : Telling → Type 0
OneText tells =
    (inputs : Inputs) (text other_text : List ℕ) (status other_status : Status) → tells inputs text status → tells inputs other_text other_status
    → (text ≡ other_text) × (status ≡ other_status)

-- it says one thing: one text on one stream, and one status
abbrev pub SaysOne : Saying → Type 0
SaysOne says =
    (stream other_stream : Stream) (text other_text : List ℕ) (status other_status : Status) → says stream text status → says other_stream other_text other_status
    → (stream ≡ other_stream) × (text ≡ other_text) × (status ≡ other_status)
