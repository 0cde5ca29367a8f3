-- A look at records, behind which the names of their sensors and attributes are read.
use Rattle.std.specs.Prelude.{List, IfOk, Result}
use Rattle.std.specs.declared.alloc.AllocError.{AllocError}
use Rattle.record_base.specs.declared.key.Key.{Key}
use Rattle.report_words.specs.declared.table_names.Names.{Names}
use Rattle.report_words.specs.TableNames.{AreWanted}
use Rattle.app_look.specs.declared.records.Found.{Found}
use Rattle.app_look.specs.declared.session.Session.{Session}
use Rattle.app_look.specs.declared.session.Way.{Way}
use Rattle.app_look.specs.Findings.{StaysOver}
use Rattle.app_look.specs.Asking.{AsksTables}
use Rattle.app_look.specs.AttributeTables.{ReadsAttributes}
use Rattle.app_look.specs.SensorRecords.{ReadsSensors}

-- these are the names that the controller's tables give the sensors and attributes of the records: those of sensors were read first
pub record ReadsNames (keys : List Key) (old new : Session) (names : Names) : Type 0 where
  pub wanted : Names
  pub are_wanted : AreWanted keys wanted
  pub mid : Session
  pub read : Names
  pub sensors : ReadsSensors old wanted mid read
  pub attributes : ReadsAttributes mid read new names

-- nothing but parts of tables was asked for; and the names are those that the tables give, unless memory for them was refused
abbrev pub KnowsNames : List Key → (old new : Session) → Result Names AllocError → Type 0
KnowsNames keys old new came = AsksTables old new × IfOk came (ReadsNames keys old new)

-- each record was looked at, and these names were read behind that
abbrev pub FindsWithNames : Way → List Key → List Found → Result Names AllocError → Type 0
FindsWithNames way keys found names = (left : Session) × StaysOver way keys found left × ((last : Session) × KnowsNames keys left last names)

-- so it was with some names
abbrev pub FindsAndNames : Way → List Key → List Found → Type 0
FindsAndNames way keys found = (names : Result Names AllocError) × FindsWithNames way keys found names
