-- How a run of `bmcnet apply` ends: what it leaves of the files, and its status.
use Rattle.std.specs.Prelude.{◌≡◌, ◌≢◌, ◌⊎◌, ℕ, Bool, true, false, List, length, Option, Some, None, Result, Ok, Err, string_bytes}
use Rattle.std.specs.declared.alloc.AllocError.{AllocError}
use Rattle.undo_plans.specs.declared.plan.Plan.{Plan}
use Rattle.model_undo.specs.declared.phase.Phase.TheVariants as phase
use Rattle.app_base.specs.declared.console.Console.{Console}
use Rattle.app_base.specs.declared.status.Status.{Status}
use Rattle.app_base.specs.declared.status.Status.TheVariants.{Success, Halted, RefusedWords, RefusedFile}
use Rattle.app_base.specs.declared.files.TextFiles as texts
use Rattle.app_base.specs.Ending.{RunEnds}
use Rattle.app_base.specs.Report.{byte_of}
use Rattle.app_journal.specs.declared.files.WritesFiles as written
use Rattle.app_look.specs.declared.records.LookFault.{LookFault}
use Rattle.app_run.specs.Ends.{PrintsNothing}
use Rattle.app_apply.specs.declared.applying.Applied.{Applied}
use Rattle.app_apply.specs.declared.applying.ApplyWords.{ApplyWords}
use Rattle.app_apply.specs.declared.outcome.Outcome.{Outcome}
use Rattle.app_apply.specs.declared.outcome.Outcome.TheVariants.{Ended}
use Rattle.app_apply.specs.Apply.{ApplyEnd}
use Rattle.app_apply.specs.Ends.{EndsBy, SaysOn, SaysUnreadOn, lacks_port, stream_for}
use Rattle.app_apply.specs.Strict.{IsStrictPlan, IsNoStrictPlan}
use Rattle.app_revert.specs.declared.reverting.RevertWords.{RevertWords}
use Rattle.app_revert.specs.Revert.{RevertEndsOf}
use Rattle.app_change.specs.KeepLook.{FailsFor}
use Rattle.app_change.specs.declared.changing.ChangeWords.{ChangeWords}
use Rattle.app_change.specs.Looks.{KeepsChanges, status_unlooked, way_of}

-- the plan halted
abbrev pub is_halted : Outcome → Bool
is_halted (Ended (phase.Halted step why) kept) = true
is_halted _ = false

abbrev pub has_halted : {Refused : Type 0} → Result Applied Refused → Bool
has_halted (Ok applied) = is_halted applied.outcome
has_halted (Err refused) = false

-- ---- all or none

-- what these words ask for takes back what those left, on the same controller
pub record IsBackOf (words : ApplyWords) (back : RevertWords) : Type 0 where
  pub file : string_bytes back.file ≡ string_bytes words.file
  pub reach : back.reach ≡ words.reach
  pub json : back.json ≡ words.json

-- a plan that halted isn't carried out, although all that was done was taken back
abbrev pub IsStatusBehind : (reverted result : ℕ) → Type 0
IsStatusBehind reverted result =
    ((reverted ≡ byte_of Success) × (result ≡ byte_of Halted)) ⊎ ((reverted ≢ byte_of Success) × (result ≡ reverted))

module _ {Stdout Stderr : Type 0} (out : Stdout → Option (List ℕ)) (err : Stderr → Option (List ℕ)) where
  -- it is said why the look failed, with its status; where memory was refused, nothing is said
  abbrev pub EndsUnlooked : (json : Bool) → LookFault → (old new : Console Stdout Stderr) → ℕ → Type 0
  EndsUnlooked json why old new result =
      ((status : Status) × (status_unlooked why ≡ Some status) × RunEnds out err (SaysOn (stream_for json) status) old new result)
      ⊎ ((status_unlooked why ≡ None) × RunEnds out err PrintsNothing old new result)

module _ {Files Stdout Stderr : Type 0} (out : Stdout → Option (List ℕ)) (err : Stderr → Option (List ℕ)) (read : texts.Ghosts Files) (files : written.Ghosts Files) where
  -- a plan is run, and then it is said what came of it
  abbrev pub AppliesTo : Plan → ApplyWords → (halted : Bool) → (before after : Files) → (old new : Console Stdout Stderr) → ℕ → Type 0
  AppliesTo plan words halted before after old new result =
      (came : Result Applied AllocError) × (halted ≡ has_halted came) × ApplyEnd read files plan words came before after
      × EndsBy out err words.json came old new result

  -- ---- all or none

  -- what a plan left is taken back, as a revert of FILE does it
  abbrev pub RevertsAtOnce : RevertWords → (before after : Files) → (old new : Console Stdout Stderr) → ℕ → Type 0
  RevertsAtOnce back before after old new result =
      (reverted : ℕ) × RevertEndsOf out err read files (string_bytes back.file) back before after old new reverted × IsStatusBehind reverted result

  -- that is done at once where the plan halted; behind any other end nothing more is
  abbrev pub GoesBack : (halted : Bool) → RevertWords → (first : ℕ) → (before after : Files) → (old new : Console Stdout Stderr) → ℕ → Type 0
  GoesBack halted back first before after old new result =
      ((halted ≡ false) × (after ≡ before) × (new ≡ old) × (result ≡ first)) ⊎ ((halted ≡ true) × RevertsAtOnce back before after old new result)

  -- a plan is run so, and taken back where it halted; or memory was refused for what would take it back, and nothing is done
  abbrev pub AppliesOrNone : Plan → ApplyWords → (before after : Files) → (old new : Console Stdout Stderr) → ℕ → Type 0
  AppliesOrNone plan words before after old new result =
      (halted : Bool) × (mid : Files) × (said : Console Stdout Stderr) × (first : ℕ) × (back : RevertWords)
      × AppliesTo plan words halted before mid old said first × IsBackOf words back × GoesBack halted back first mid after said new result

  abbrev pub ChangesTo : Plan → ChangeWords → (before after : Files) → (old new : Console Stdout Stderr) → ℕ → Type 0
  ChangesTo plan words before after old new result =
      ((words.all_or_none ≡ true) × AppliesOrNone plan words.apply before after old new result)
      ⊎ ((words.all_or_none ≡ false) × ((halted : Bool) × AppliesTo plan words.apply halted before after old new result))

  -- ---- only changes

  -- It is said that steps are left out, and then the plan of the others is run. Where that can't be said, nothing is done.
  abbrev pub TellsFirst : (kept : Plan) → ChangeWords → (before after : Files) → (old new : Console Stdout Stderr) → ℕ → Type 0
  TellsFirst kept words before after old new result =
      (said : Console Stdout Stderr) × (first : ℕ) × RunEnds out err (SaysOn (stream_for words.apply.json) Success) old said first
      × (((first ≡ byte_of Success) × ChangesTo kept words before after said new result)
      ⊎ ((first ≢ byte_of Success) × (after ≡ before) × (new ≡ said) × (result ≡ first)))

  -- the plan of the kept steps is run, which may be each of so many
  abbrev pub ChangesKept : (kept : Plan) → (steps : ℕ) → ChangeWords → (before after : Files) → (old new : Console Stdout Stderr) → ℕ → Type 0
  ChangesKept kept steps words before after old new result =
      ((length kept.steps ≡ steps) × ChangesTo kept words before after old new result)
      ⊎ ((length kept.steps ≢ steps) × TellsFirst kept words before after old new result)

  -- where none is kept, that is said, and nothing is done
  abbrev pub ChangesBy : (kept : Plan) → (steps : ℕ) → ChangeWords → (before after : Files) → (old new : Console Stdout Stderr) → ℕ → Type 0
  ChangesBy kept steps words before after old new result =
      ((length kept.steps ≡ 0) × (after ≡ before) × RunEnds out err (SaysOn (stream_for words.apply.json) Success) old new result)
      ⊎ ((length kept.steps ≢ 0) × ChangesKept kept steps words before after old new result)

  -- The controller is looked at first, and the plan of the steps that are kept is run. Where the look failed that is said, and nothing is done.
  abbrev pub LooksFirst : Plan → ChangeWords → (before after : Files) → (old new : Console Stdout Stderr) → ℕ → Type 0
  LooksFirst plan words before after old new result =
      ((kept : Plan) × KeepsChanges (way_of plan words.apply.reach) plan kept × ChangesBy kept (length plan.steps) words before after old new result)
      ⊎ ((why : LookFault) × FailsFor (way_of plan words.apply.reach) plan.steps why × (after ≡ before)
      × EndsUnlooked out err words.apply.json why old new result)

  -- ---- a plan's file

  abbrev pub ChangesFrom : Plan → ChangeWords → (before after : Files) → (old new : Console Stdout Stderr) → ℕ → Type 0
  ChangesFrom plan words before after old new result =
      ((words.only_changes ≡ true) × LooksFirst plan words before after old new result)
      ⊎ ((words.only_changes ≡ false) × ChangesTo plan words before after old new result)

  -- A plan that is taken is run so. Where it needs a port that isn't known, that is said, and nothing is done.
  abbrev pub ChangeEndsOver : Plan → ChangeWords → (before after : Files) → (old new : Console Stdout Stderr) → ℕ → Type 0
  ChangeEndsOver plan words before after old new result =
      ((lacks_port plan words.apply.reach ≡ true) × (after ≡ before) × RunEnds out err (SaysOn (stream_for words.apply.json) RefusedWords) old new result)
      ⊎ ((lacks_port plan words.apply.reach ≡ false) × ChangesFrom plan words before after old new result)

  -- so a run of a plan's text ends; a text that isn't taken is refused, and nothing is done
  abbrev pub ChangeEndsOn : (text : List ℕ) → ChangeWords → (before after : Files) → (old new : Console Stdout Stderr) → ℕ → Type 0
  ChangeEndsOn text words before after old new result =
      ((plan : Plan) × IsStrictPlan text plan × ChangeEndsOver plan words before after old new result)
      ⊎ ((after ≡ before) × ((IsNoStrictPlan text × RunEnds out err (SaysOn (stream_for words.apply.json) RefusedFile) old new result) ⊎ RunEnds out err PrintsNothing old new result))

  -- so a run of a plan's file ends
  abbrev pub ChangeEndsOf : (word : List ℕ) → ChangeWords → (before after : Files) → (old new : Console Stdout Stderr) → ℕ → Type 0
  ChangeEndsOf word words before after old new result =
      ((text : List ℕ) × read.gives before word (Ok text) × ChangeEndsOn text words before after old new result)
      ⊎ ((after ≡ before) × RunEnds out err (SaysUnreadOn words.apply.json (read.gives before) word) old new result)
