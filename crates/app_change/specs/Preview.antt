-- How a run of `bmcnet preview` ends.
use Rattle.std.specs.Prelude.{◌≡◌, ◌⊎◌, ℕ, Bool, true, false, List, map, Option, Ok, string_bytes}
use Rattle.std.specs.List.{list_any}
use Rattle.std.specs.Option.{unwrap_or}
use Rattle.record_base.specs.declared.key.Key.{Key}
use Rattle.record_base.specs.declared.op.Op.{Op}
use Rattle.record_kinds.specs.Limits.{key_of}
use Rattle.undo_plans.specs.declared.plan.Plan.{Plan}
use Rattle.shown_records.specs.declared.meaning.Meaning.{Meaning}
use Rattle.shown_records.specs.declared.meaning.Meaning.TheVariants.{NotRestorable, Same, Changes}
use Rattle.app_base.specs.declared.console.Console.{Console}
use Rattle.app_base.specs.declared.console.Stream.TheVariants.{Output}
use Rattle.app_base.specs.declared.status.Status.{Status}
use Rattle.app_base.specs.declared.status.Status.TheVariants.{Success, Halted, Unsettled, RefusedWords, RefusedFile, Stopped}
use Rattle.app_base.specs.Ending.{Saying, RunEnds}
use Rattle.app_base.specs.Files.{Readings}
use Rattle.app_run.specs.Ends.{PrintsNothing}
use Rattle.app_apply.specs.declared.kept_calls.Reach.{Reach}
use Rattle.app_apply.specs.Ends.{SaysOn, SaysUnreadOn, SaysWith, lacks_port, stream_for}
use Rattle.app_apply.specs.Strict.{IsNoStrictPlan, IsStrictPlan}
use Rattle.app_look.specs.declared.records.Found.{Found}
use Rattle.app_look.specs.declared.records.LookFault.{LookFault}
use Rattle.app_look.specs.declared.records.LookFault.TheVariants as look
use Rattle.app_look.specs.declared.records.StopFault.TheVariants as stop
use Rattle.app_look.specs.declared.session.OpenFault.TheVariants as open_fault
use Rattle.app_look.specs.declared.session.Way.{Way}
use Rattle.app_look.specs.Findings.{FailsOver}
use Rattle.app_look.specs.Reading.{FindsAndNames}
use Rattle.app_change.specs.declared.outlooks.Outlook.{Outlook}
use Rattle.app_change.specs.declared.outlooks.Outlook.TheVariants as outlook
use Rattle.app_change.specs.declared.previewing.PreviewWords.{PreviewWords}
use Rattle.app_change.specs.Outlooks.{AreOutlooks}

-- ---- the looks

-- the way of looks to where a controller is
abbrev pub way_of : Reach → (retries : ℕ) → Way
way_of reach retries = record {
  ipmb_port = reach.ipmb_port;
  smbus_port = unwrap_or reach.smbus_port 0;
  wait_ms = reach.wait_ms;
  retries = retries;
  again = reach.again;
}

-- the records of the steps, in their order
abbrev pub keys_of : List Op → List Key
keys_of steps = map key_of steps

-- ---- the status

-- what the step made couldn't be taken back
abbrev pub is_for_good : Meaning → Bool
is_for_good NotRestorable = true
is_for_good Same = false
is_for_good Changes = false

-- the step can't be done: its Get was refused, or it couldn't be taken back
abbrev pub is_barred : Outlook → Bool
is_barred (outlook.Foreseen foreseen) = is_for_good foreseen.meaning
is_barred (outlook.Refused code) = true

-- the status where one can't be done, or each can
abbrev pub status_if : (barred : Bool) → Status
status_if true = Halted
status_if false = Success

abbrev pub status_of : List Outlook → Status
status_of outlooks = status_if (list_any is_barred outlooks)

-- ---- the end

-- why not each record was looked at, as standard error says it; where memory was refused, nothing else is said
abbrev pub SaysLookFault : LookFault → Saying
SaysLookFault (look.Unopened (open_fault.Ungreeted why)) = SaysWith Unsettled
SaysLookFault (look.Unopened open_fault.NoLink) = SaysWith Stopped
SaysLookFault (look.Unopened open_fault.Memory) = PrintsNothing
SaysLookFault (look.Stopped (stop.Silent place)) = SaysWith Unsettled
SaysLookFault (look.Stopped stop.Memory) = PrintsNothing

module _ {Stdout Stderr : Type 0} (out : Stdout → Option (List ℕ)) (err : Stderr → Option (List ℕ)) where
  -- standard output has what each step would make of what the steps before it leave, and the status says whether each can be done; or memory was
  -- refused
  abbrev pub TellsOf : List Op → List Found → (old new : Console Stdout Stderr) → ℕ → Type 0
  TellsOf steps found old new result =
      ((outlooks : List Outlook) × AreOutlooks steps found outlooks × RunEnds out err (SaysOn Output (status_of outlooks)) old new result)
      ⊎ RunEnds out err PrintsNothing old new result

  -- The controller was greeted on the buses of the steps, and the record of each was looked at, and that is told, with names of sensors and
  -- attributes, for which parts of the controller's own tables alone were asked for. Or not each was looked at, and that is said.
  abbrev pub PreviewsTo : Plan → PreviewWords → (old new : Console Stdout Stderr) → ℕ → Type 0
  PreviewsTo plan words old new result =
      ((found : List Found) × FindsAndNames (way_of words.reach plan.retries) (keys_of plan.steps) found × TellsOf plan.steps found old new result)
      ⊎ (((why : LookFault) × FailsOver (way_of words.reach plan.retries) (keys_of plan.steps) why × RunEnds out err (SaysLookFault why) old new result)
      ⊎ RunEnds out err PrintsNothing old new result)

  -- A plan that is taken is previewed, unless it needs a port that isn't known: then that is said.
  abbrev pub PreviewEndsOver : Plan → PreviewWords → (old new : Console Stdout Stderr) → ℕ → Type 0
  PreviewEndsOver plan words old new result =
      ((lacks_port plan words.reach ≡ true) × RunEnds out err (SaysOn (stream_for words.json) RefusedWords) old new result)
      ⊎ ((lacks_port plan words.reach ≡ false) × PreviewsTo plan words old new result)

  -- So the preview of a plan's text ends: as one of the plan. A text that isn't taken is refused.
  abbrev pub PreviewEndsOn : (text : List ℕ) → PreviewWords → (old new : Console Stdout Stderr) → ℕ → Type 0
  PreviewEndsOn text words old new result =
      ((plan : Plan) × IsStrictPlan text plan × PreviewEndsOver plan words old new result)
      ⊎ ((IsNoStrictPlan text × RunEnds out err (SaysOn (stream_for words.json) RefusedFile) old new result) ⊎ RunEnds out err PrintsNothing old new result)

  -- so that of a plan's file ends
  abbrev pub PreviewEndsOf : Readings → PreviewWords → (old new : Console Stdout Stderr) → ℕ → Type 0
  PreviewEndsOf gives words old new result =
      ((text : List ℕ) × gives (string_bytes words.plan) (Ok text) × PreviewEndsOn text words old new result)
      ⊎ RunEnds out err (SaysUnreadOn words.json gives (string_bytes words.plan)) old new result
