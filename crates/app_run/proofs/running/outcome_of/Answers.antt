use Rattle.std.specs.Prelude.{Result}
use Rattle.std.proofs.Common.{Ok, Err, ap, inl, inr, refl, subst, sym}
use Rattle.app_base.specs.declared.ending.ReportFault.TheVariants.{Memory}
use Rattle.app_journal.specs.declared.files.WriteFault.{WriteFault}
use Rattle.app_journal.specs.declared.reviving.ReviveFault.{ReviveFault}
use Rattle.app_run.specs.declared.kept_run.Ran.{Ran}
use Rattle.app_run.specs.declared.running.Outcome.TheVariants.{Ran as HasRun}
use Rattle.app_run.specs.Outcome.{KeepsRan}
use Rattle.app_run.proofs.running.outcome_of.Goals as goal

pub returns-in-Err : goal.returns-in-Err
returns-in-Err g c =
    subst (λ (came : Result Ran ReviveFault). KeepsRan g.F.WritesFiles c.args.beside.now came (Err Memory) c.args.files.now c.args.files.now) (sym c.in-Err.is) (refl, refl)

pub returns-in-Ok-last : goal.returns-in-Ok-last
returns-in-Ok-last g c =
    subst (λ (came : Result Ran ReviveFault). KeepsRan g.F.WritesFiles c.args.beside.now came (Ok (HasRun c.in-Ok.ran.phase c.first_fault.result)) c.args.files.now c.keep-last.new.files)
    (sym c.in-Ok.is)
    (inl (
      c.in-Ok-last.last,
      ap (λ (answer : Result (Unit {0}) WriteFault). Ok (HasRun c.in-Ok.ran.phase answer)) c.first_fault.ensures,
      c.in-Ok-last.ensures.kept,
    ))

pub returns-in-Err-last : goal.returns-in-Err-last
returns-in-Err-last g c =
    let kept = c.in-Err-last.ensures.memory in
    subst (λ (came : Result Ran ReviveFault). KeepsRan g.F.WritesFiles c.args.beside.now came (Err Memory) c.args.files.now c.keep-last.new.files) (sym c.in-Ok.is)
    (inr (refl, kept.0, kept.1))
