-- How a run ends for which all was made ready, or not.
use Rattle.std.specs.Prelude.{IfErr, IfOk, OnOk, Option, Result, Ok, Err}
use Rattle.std.proofs.Common.{◌≡◌, ◌⊎◌, ℕ, false, List, inl, inr, length, refl, string_bytes, subst, sym}
use Rattle.undo_plans.specs.declared.plan.Plan.{Plan}
use Rattle.plan_file.specs.declared.kind.Kind.{Kind}
use Rattle.plan_file.specs.PlanHolds.{ReadsPlan}
use Rattle.app_base.specs.declared.console.Console.{Console}
use Rattle.app_base.specs.declared.ending.ReportFault.{ReportFault}
use Rattle.app_base.specs.declared.files.TextFiles as texts
use Rattle.app_base.specs.Ending.{RunEnds}
use Rattle.app_base.specs.EndingLaws.{run_ends_as}
use Rattle.app_base.specs.Files.{Readings}
use Rattle.app_journal.specs.declared.files.WritesFiles.{Ghosts}
use Rattle.app_journal.specs.declared.claiming.Claim.TheVariants as claim
use Rattle.app_journal.specs.declared.claiming.Taken.{Taken}
use Rattle.app_journal.specs.declared.undo_files.UndoFiles.{UndoFiles}
use Rattle.app_run.specs.declared.greeting.Greetings.{Greetings}
use Rattle.app_run.specs.declared.preparing.Prepared.{Prepared}
use Rattle.app_run.specs.declared.progress.Progress.{Progress}
use Rattle.app_run.specs.declared.running.Outcome.{Outcome}
use Rattle.app_run.specs.declared.running.RunWords.{RunWords}
use Rattle.app_run.specs.Driven.{opened_with}
use Rattle.app_run.specs.Greeted.{greetings_before_run}
use Rattle.app_run.specs.Outcome.{ComesGreeted, GoesFrom, RunEnd}
use Rattle.app_run.specs.Prepared.{EndsPlanless, EndsUnclaimed, HasPlan, IsPrepared}
use Rattle.app_run.specs.Run.{ClaimsFor, EndsBy, RunEndsOf, RunEndsOver, SaysFault, TellsAside}
use Rattle.app_run.specs.Strict.{SaysRefused, is_refused}
use Rattle.app_run.specs.Told.{MayTellWay, TellsFile, TellsWay}

-- a plan that was read of the text of its file, and that isn't refused, is the file's
pub has_fit : (gives : Readings) (words : RunWords) (text : List ℕ) (plan : Plan) (fit : Result Plan ℕ) → gives (string_bytes words.plan) (Ok text) → ReadsPlan text (Ok plan)
    → IfOk fit (λ it. it ≡ plan) → OnOk fit (is_refused words.strict text plan ≡ false) → IfOk fit (HasPlan gives words)
has_fit gives words text plan (Ok it) given reads same fits = subst (HasPlan gives words) (sym same) (text, given, reads, fits)
has_fit gives words text plan (Err status) given reads same fits = tt

-- where it is refused, there is no plan
pub unfit : {Stdout Stderr : Type 0} (out : Stdout → Option (List ℕ)) (err : Stderr → Option (List ℕ)) (gives : Readings) (words : RunWords) (text : List ℕ) (plan : Plan)
    (fit : Result Plan ℕ) (old new : Console Stdout Stderr) → gives (string_bytes words.plan) (Ok text) → ReadsPlan text (Ok plan)
    → IfErr fit (RunEnds out err (SaysRefused (is_refused words.strict text plan)) old new) → IfErr fit (EndsPlanless out err gives words old new)
unfit out err gives words text plan (Ok it) old new given reads refused = tt
unfit out err gives words text plan (Err status) old new given reads refused =
    inl (
      text,
      given,
      run_ends_as out err (SaysRefused (is_refused words.strict text plan)) (SaysFault words.strict text) old new status (λ stream said ended why. inr (plan, reads, why)) refused,
    )

module _ {Files Stdout Stderr : Type 0} (out : Stdout → Option (List ℕ)) (err : Stderr → Option (List ℕ)) (read : texts.Ghosts Files) (files : Ghosts Files) (words : RunWords)
    (before : Files) (old : Console Stdout Stderr) where
  -- there is no plan
  pub planless : (new : Console Stdout Stderr) (result : ℕ) → EndsPlanless out err (read.gives before) words old new result
      → RunEndsOf out err read files (string_bytes words.plan) words before before old new result
  planless new result (inl (text, given, said)) = inl (text, given, inr (refl, said))
  planless new result (inr said) = inr (refl, said)

  -- there is one
  of_plan : (plan : Plan) (after : Files) (new : Console Stdout Stderr) (result : ℕ) → HasPlan (read.gives before) words plan
      → RunEndsOver out err read files plan words before after old new result → RunEndsOf out err read files (string_bytes words.plan) words before after old new result
  of_plan plan after new result (text, given, reads, fits) over = inl (text, given, inl (plan, reads, fits, over))

  -- the files aren't claimed
  pub unclaimed : (plan : Plan) (after : Files) (new : Console Stdout Stderr) (result : ℕ) → HasPlan (read.gives before) words plan
      → EndsUnclaimed out err read files words before after old new result → RunEndsOf out err read files (string_bytes words.plan) words before after old new result
  unclaimed plan after new result has (inl (taken, claims, some, said)) = of_plan plan after new result has (inl (taken, after, claims, inr (some, refl, said)))
  unclaimed plan after new result has (inr (inl (claims, said))) = of_plan plan after new result has (inr (inl (claims, said)))
  unclaimed plan after new result has (inr (inr (refused, claims, said))) = of_plan plan after new result has (inr (inr (refused, claims, said)))

  -- they are, and a run of the plan came to an end
  pub ends_so : (plan : Plan) (taken : Taken) (held after : Files) (mid new : Console Stdout Stderr) (outcome : Result Outcome ReportFault) (result : ℕ)
      → HasPlan (read.gives before) words plan → ClaimsFor read files words (Ok (claim.Taken taken)) before held → TellsAside out err taken.aside old mid
      → RunEnd files plan taken.beside words outcome held after → EndsBy out err words outcome mid new result
      → RunEndsOf out err read files (string_bytes words.plan) words before after old new result
  ends_so plan taken held after mid new outcome result has claims told ended said =
      of_plan plan after new result has (inl (taken, held, claims, inl (mid, outcome, told, ended, said)))

  -- all was made ready, and it went on from there
  pub ends_ready : (prepared : Prepared) (made after : Files) (mid new : Console Stdout Stderr) (outcome : Result Outcome ReportFault) (result : ℕ)
      → IsPrepared out err read files words prepared before made old mid
      → ComesGreeted files prepared.ready.greetings prepared.beside prepared.ready.manager words (string_bytes prepared.ready.texts.last) outcome made after
      → EndsBy out err words outcome mid new result → RunEndsOf out err read files (string_bytes words.plan) words before after old new result
  ends_ready prepared made after mid new outcome result is comes said =
      let it = is.made in
      let text = string_bytes prepared.ready.texts.last in
      ends_so is.plan is.taken is.held after mid new outcome result is.has is.claims is.told
      (inl (
        text,
        made,
        it.makes,
        subst (λ (beside : UndoFiles). GoesFrom files (greetings_before_run words.greet is.plan) beside (opened_with is.plan) words text outcome made after) it.same
            (subst (λ (greetings : Greetings). GoesFrom files greetings prepared.beside (opened_with is.plan) words text outcome made after) it.greetings
            (comes (opened_with is.plan) it.shown)),
      ))
      said

  -- what is told of the manager's way is told of the plan's file
  pub tells_ready : {Writer : Type 0} (line : Writer → Option (List ℕ)) (prepared : Prepared) (made : Files) (mid : Console Stdout Stderr) (first last : Progress Writer)
      → IsPrepared out err read files words prepared before made old mid → MayTellWay line prepared.ready.kinds.items prepared.ready.manager first last
      → TellsFile line (read.gives before) (string_bytes words.plan) first last
  tells_ready line prepared made mid first last is told =
      let it = is.made in
      inr (
        is.has.0,
        is.has.1,
        inr (
          is.plan,
          is.has.2,
          subst (λ (kinds : List Kind). (last ≡ first) ⊎ TellsWay line kinds (length kinds) (opened_with is.plan) first last) it.kinds (told (opened_with is.plan) it.shown),
        ),
      )
