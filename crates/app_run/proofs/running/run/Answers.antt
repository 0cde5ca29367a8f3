use Rattle.std.proofs.Common.{Err, inl, inr, refl, string_bytes}
use Rattle.app_base.specs.declared.ending.ReportFault.TheVariants.{Stopped}
use Rattle.app_run.proofs.Going.{comes_of}
use Rattle.app_run.proofs.Greets.{left_run}
use Rattle.app_run.proofs.Readied.{ends_ready, tells_ready}
use Rattle.app_run.proofs.Ways.{untold_file}
use Rattle.app_run.proofs.running.run.Goals as goal

pub returns-in-Err-greeted-clause-ends : goal.returns-in-Err-greeted-clause-ends
returns-in-Err-greeted-clause-ends g c =
    let ready = c.in-Ok.prepared.ready in
    ends_ready g.W.Write.contents g.E.Write.contents g.F.TextFiles g.F.WritesFiles c.args.words.now c.args.files.now c.args.console.now c.in-Ok.prepared c.prepare.new.files
    c.prepare.new.files c.prepare.new.console c.say_outcome.new.console c.leave_ungreeted-outcome.result c.say_outcome.result c.in-Ok.ensures.prepared
    (λ before shows.
    left_run g.F.WritesFiles ready.greetings c.in-Ok.prepared.beside before c.args.words.now (string_bytes ready.texts.last) ready.manager c.in-Err-greeted.fault c.leave_ungreeted-outcome.result
    c.prepare.new.files shows c.in-Err-greeted.ensures c.leave_ungreeted-outcome.ensures)
    c.say_outcome.ensures

pub returns-in_default-ends-clause-ends : goal.returns-in_default-ends-clause-ends
returns-in_default-ends-clause-ends g c =
    ends_ready g.W.Write.contents g.E.Write.contents g.F.TextFiles g.F.WritesFiles c.args.words.now c.args.files.now c.args.console.now c.in-Ok.prepared c.prepare.new.files
    c.prepare.new.files c.prepare.new.console c.say_outcome-in_default-ends.new.console (Err Stopped) c.say_outcome-in_default-ends.result c.in-Ok.ensures.prepared
    (λ before shows. inr (inr (refl, refl)))
    c.say_outcome-in_default-ends.ensures

pub returns-clause-ends : goal.returns-clause-ends
returns-clause-ends g c =
    let ready = c.in-Ok.prepared.ready in
    ends_ready g.W.Write.contents g.E.Write.contents g.F.TextFiles g.F.WritesFiles c.args.words.now c.args.files.now c.args.console.now c.in-Ok.prepared c.prepare.new.files
    c.outcome_of-outcome.new.files c.prepare.new.console c.say_outcome-2.new.console c.outcome_of-outcome.result c.say_outcome-2.result c.in-Ok.ensures.prepared
    (λ before shows. inl (
      c.in_default.ensures,
      comes_of g.F.WritesFiles c.in-Ok.prepared.beside ready.manager c.args.words.now (string_bytes ready.texts.last) c.prepare.new.files c.run_over-came.new.files c.outcome_of-outcome.new.files
          c.run_over-came.result c.outcome_of-outcome.result c.run_over-came.ensures.runs c.outcome_of-outcome.ensures before shows,
    ))
    c.say_outcome-2.ensures

pub returns-clause-told : goal.returns-clause-told
returns-clause-told g c =
    tells_ready g.W.Write.contents g.E.Write.contents g.F.TextFiles g.F.WritesFiles c.args.words.now c.args.files.now c.args.console.now g.P.Write.contents c.in-Ok.prepared c.prepare.new.files
    c.prepare.new.console c.args.progress.now c.run_over-came.new.progress c.in-Ok.ensures.prepared c.run_over-came.ensures.told

pub returns-clause-untold : goal.returns-clause-untold
returns-clause-untold g c off =
    untold_file g.P.Write.contents (g.F.TextFiles.gives c.args.files.now) (string_bytes c.args.words.now.plan) c.args.progress.now c.run_over-came.new.progress
    (tells_ready g.W.Write.contents g.E.Write.contents g.F.TextFiles g.F.WritesFiles c.args.words.now c.args.files.now c.args.console.now g.P.Write.contents c.in-Ok.prepared c.prepare.new.files
    c.prepare.new.console c.args.progress.now c.run_over-came.new.progress c.in-Ok.ensures.prepared c.run_over-came.ensures.told) off
