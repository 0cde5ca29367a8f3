use Rattle.std.specs.Prelude.{IfErr, OnOk}
use Rattle.std.proofs.Common.{◌≡◌, ◌∙◌, false, List, ℕ, Ok, Err, ap, inl, inr, rules, string_bytes, subst}
use Rattle.app_base.specs.Ending.{RunEnds}
use Rattle.app_base.specs.EndingLaws.{run_ends_as, run_reports}
use Rattle.app_base.specs.Files.{PrintsRefusal}
use Rattle.app_base.specs.Report.{file_line}
use Rattle.plan_file.specs.declared.plan_fault.PlanFault.TheVariants.{Memory}
use Rattle.plan_file.specs.PlanHolds.{ReadsPlan}
use Rattle.app_run.specs.Run.{SaysFault, SaysUnread}
use Rattle.app_run.specs.Strict.{SaysRefused, is_refused}
use Rattle.app_run.proofs.Readied.{has_fit, unfit}
use Rattle.app_run.proofs.Telling.{says_memory, was_read}
use Rattle.app_run.proofs.preparing.plan_in.Goals as goal

pub returns-in-Ok-read_plan-clause-has : goal.returns-in-Ok-read_plan-clause-has
returns-in-Ok-read_plan-clause-has g c =
    let text = string_bytes c.in-Ok.text in
    has_fit (g.F.TextFiles.gives c.args.files.now) c.args.words.now text c.in-Ok-read_plan.plan c.fit_plan.result
    (subst (λ (named : List ℕ). g.F.TextFiles.gives c.args.files.now named (Ok text)) c.as_str.ensures.value c.in-Ok.ensures.text)
    (subst (λ (read : List ℕ). ReadsPlan read (Ok c.in-Ok-read_plan.plan)) c.as_str-2.ensures.value (was_read c.in-Ok-read_plan.plan Memory c.in-Ok-read_plan.ensures))
    c.fit_plan.ensures.same
    (subst (λ (read : List ℕ). OnOk c.fit_plan.result (is_refused c.args.words.now.strict read c.in-Ok-read_plan.plan ≡ false)) c.as_str-in-Ok-read_plan.ensures.value c.fit_plan.ensures.fits)

pub returns-in-Ok-read_plan-clause-planless : goal.returns-in-Ok-read_plan-clause-planless
returns-in-Ok-read_plan-clause-planless g c =
    let text = string_bytes c.in-Ok.text in
    unfit g.W.Write.contents g.E.Write.contents (g.F.TextFiles.gives c.args.files.now) c.args.words.now text c.in-Ok-read_plan.plan c.fit_plan.result c.args.console.now c.fit_plan.new.console
    (subst (λ (named : List ℕ). g.F.TextFiles.gives c.args.files.now named (Ok text)) c.as_str.ensures.value c.in-Ok.ensures.text)
    (subst (λ (read : List ℕ). ReadsPlan read (Ok c.in-Ok-read_plan.plan)) c.as_str-2.ensures.value (was_read c.in-Ok-read_plan.plan Memory c.in-Ok-read_plan.ensures))
    (subst
    (λ (read : List ℕ).
    IfErr c.fit_plan.result
    (RunEnds g.W.Write.contents g.E.Write.contents (SaysRefused (is_refused c.args.words.now.strict read c.in-Ok-read_plan.plan)) c.args.console.now c.fit_plan.new.console))
    c.as_str-in-Ok-read_plan.ensures.value c.fit_plan.ensures.refused)

pub returns-in-Err-clause-planless : goal.returns-in-Err-clause-planless
returns-in-Err-clause-planless g c =
    let unread = c.in-Err.unread in
    inr (run_ends_as g.W.Write.contents g.E.Write.contents (PrintsRefusal unread.why unread.word.now) (SaysUnread (g.F.TextFiles.gives c.args.files.now) (string_bytes c.args.words.now.plan))
    c.args.console.now c.refuse.new.console c.refuse.result
    (λ stream said status told. (
      unread.why,
      subst (λ (named : List ℕ). g.F.TextFiles.gives c.args.files.now named (Err unread.why)) c.as_str.ensures.value c.in-Err.ensures.unread,
      (told.0, told.1, told.2 ∙ ap file_line (c.in-Err.ensures.word ∙ c.as_str.ensures.value), told.3),
    ))
    c.refuse.ensures)

pub returns-in-Err-Memory-clause-planless : goal.returns-in-Err-Memory-clause-planless
returns-in-Err-Memory-clause-planless g c =
    let text = string_bytes c.in-Ok.text in
    inl (
      text,
      subst (λ (named : List ℕ). g.F.TextFiles.gives c.args.files.now named (Ok text)) c.as_str.ensures.value c.in-Ok.ensures.text,
      says_memory g.W.Write.contents g.E.Write.contents (SaysFault c.args.words.now.strict text) c.args.console.now c.end_run.new.console c.end_run.result c.end_run.ensures,
    )

pub returns-clause-planless : goal.returns-clause-planless
returns-clause-planless g c =
    let text = string_bytes c.in-Ok.text in
    inl (
      text,
      subst (λ (named : List ℕ). g.F.TextFiles.gives c.args.files.now named (Ok text)) c.as_str.ensures.value c.in-Ok.ensures.text,
      run_reports g.W.Write.contents g.E.Write.contents (SaysFault c.args.words.now.strict text) c.refusal.result c.args.console.now c.end_run-in-Err-read_plan.new.console c.end_run-in-Err-read_plan.result
          (c.refusal.ensures c.args.words.now.strict text (search rules)) c.end_run-in-Err-read_plan.ensures,
    )
