-- A looker with links of its own to a controller that was greeted, or why there is none; or over links that are there.
use Rattle.std.specs.Prelude.{◌≡◌, ℕ, Bool, true, false, Option, Some, None}
use Rattle.wire_links.specs.Counted.{none_counted}
use Rattle.undo_plans.specs.declared.undo_list.NextNumbers.{NextNumbers}
use Rattle.model_lab.specs.Meaning.{lab_names}
use Rattle.undo_look.specs.declared.looker.Looker.{Looker}
use Rattle.undo_look.specs.Looks.{opened_at, state_of}
use Rattle.app_run.specs.declared.links.BusLinks.{BusLinks}
use Rattle.app_run.specs.declared.greeting.Greetings.{Greetings}
use Rattle.app_run.specs.Greeted.{AreGreeted}
use Rattle.app_look.specs.declared.session.OpenFault.{OpenFault}
use Rattle.app_look.specs.declared.session.OpenFault.TheVariants as fault
use Rattle.app_look.specs.declared.session.Session.{Session}
use Rattle.app_look.specs.declared.session.Way.{Way}

-- the most turns of a greeting, and of a call that drives a look
abbrev pub most_turns : ℕ
most_turns = 4294967295

-- the requests of a look begin with the number 0 on both buses
abbrev pub first_numbers : NextNumbers
first_numbers = record { ipmb = 0; smbus = 0 }

-- that number, where the bus is used
abbrev pub number_on : (used : Bool) → Option ℕ
number_on true = Some 0
number_on false = None

-- the greetings before the looks
abbrev pub greetings_of : Way → (ipmb smbus : Bool) → Greetings
greetings_of way ipmb smbus = record { ipmb = number_on ipmb; smbus = number_on smbus; retries = way.retries }

-- each greeting was answered, and nothing was sent behind them over the looker's own links
pub record IsOpened (way : Way) (ipmb smbus : Bool) (session : Session) : Type 0 where
  pub greeted : AreGreeted (greetings_of way ipmb smbus) most_turns None
  pub looker : state_of session.looker ≡ opened_at lab_names first_numbers way.retries
  pub on_ipmb : session.ipmb.counts ≡ none_counted
  pub on_smbus : session.smbus.counts ≡ none_counted
  pub again : session.again ≡ way.again

-- the session of a looker and links that are there
abbrev pub session_over : Looker → BusLinks → (again : ℕ) → Session
session_over looker ends again = record { looker = looker; ipmb = ends.ipmb; smbus = ends.smbus; again = again }

-- why there is no looker: where it is for a greeting, that one wasn't answered
abbrev pub IsUnopened : Way → (ipmb smbus : Bool) → OpenFault → Type 0
IsUnopened way ipmb smbus fault.Memory = Unit {0}
IsUnopened way ipmb smbus fault.NoLink = Unit {0}
IsUnopened way ipmb smbus (fault.Ungreeted why) = AreGreeted (greetings_of way ipmb smbus) most_turns (Some why)
