use Rattle.std.specs.Prelude.{Result}
use Rattle.std.proofs.Common.{◌≡◌, ◌∙◌, ℕ, List, Ok, Err, ap, inl, inr, subst}
use Rattle.std.specs.declared.alloc.AllocError.{AllocError}
use Rattle.app_base.specs.EndingLaws.{run_reports}
use Rattle.app_base.specs.Ending.{RunEnds}
use Rattle.app_base.specs.Report.{byte_of}
use Rattle.app_journal.specs.declared.claiming.Claim.{Claim}
use Rattle.app_journal.specs.declared.claiming.Claim.TheVariants.{Taken, Refused}
use Rattle.app_journal.specs.Claiming.{Claims}
use Rattle.app_run.specs.Ends.{PrintsNothing, SaysFile}
use Rattle.app_run.proofs.Asides.{aside_told, aside_untold}
use Rattle.app_run.proofs.Telling.{says_memory}
use Rattle.app_run.proofs.preparing.claimed.Goals as goal

pub returns-in-Success-clause-claims : goal.returns-in-Success-clause-claims
returns-in-Success-clause-claims g c =
    subst (λ (word : List ℕ). Claims g.F.TextFiles g.F.WritesFiles word c.args.words.now.replace (Ok (Taken c.in-Ok-Taken.taken)) c.args.files.now c.claim_files.new.files)
    c.as_str-word.ensures.value
    (subst (λ (came : Result Claim AllocError). Claims g.F.TextFiles g.F.WritesFiles c.as_str-word.result.now c.args.words.now.replace came c.args.files.now c.claim_files.new.files)
    (c.in-Ok-Taken.is ∙ ap (λ (claim : Claim). Ok claim) c.in-Ok-Taken.field-0-is) c.claim_files.ensures)

pub returns-in-Success-clause-told : goal.returns-in-Success-clause-told
returns-in-Success-clause-told g c =
    aside_told g.W.Write.contents g.E.Write.contents c.in-Ok-Taken.taken.aside c.args.console.now c.tell_aside.new.console c.tell_aside.result c.in-Success.is c.tell_aside.ensures

pub returns-in-Ok-Refused-clause-unclaimed : goal.returns-in-Ok-Refused-clause-unclaimed
returns-in-Ok-Refused-clause-unclaimed g c =
    inr (inl (
      subst (λ (word : List ℕ). Claims g.F.TextFiles g.F.WritesFiles word c.args.words.now.replace (Ok Refused) c.args.files.now c.claim_files.new.files) c.as_str-word.ensures.value
          (subst (λ (came : Result Claim AllocError). Claims g.F.TextFiles g.F.WritesFiles c.as_str-word.result.now c.args.words.now.replace came c.args.files.now c.claim_files.new.files)
          (c.in-Ok-Refused.is ∙ ap (λ (claim : Claim). Ok claim) c.in-Ok-Refused.field-0-is) c.claim_files.ensures),
      subst (λ (word : List ℕ). RunEnds g.W.Write.contents g.E.Write.contents (SaysFile word) c.args.console.now c.end_run.new.console c.end_run.result) c.as_str-word.ensures.value
          (run_reports g.W.Write.contents g.E.Write.contents (SaysFile c.as_str-word.result.now) c.unmade.result c.args.console.now c.end_run.new.console c.end_run.result
          c.unmade.ensures c.end_run.ensures),
    ))

pub returns-in-Err-clause-unclaimed : goal.returns-in-Err-clause-unclaimed
returns-in-Err-clause-unclaimed g c =
    inr (inr (
      c.in-Err.field-0,
      subst (λ (word : List ℕ). Claims g.F.TextFiles g.F.WritesFiles word c.args.words.now.replace (Err c.in-Err.field-0) c.args.files.now c.claim_files.new.files)
          c.as_str-word.ensures.value c.in-Err.ensures,
      says_memory g.W.Write.contents g.E.Write.contents PrintsNothing c.args.console.now c.end_run-in-Err.new.console c.end_run-in-Err.result c.end_run-in-Err.ensures,
    ))

pub returns-in_default-clause-unclaimed : goal.returns-in_default-clause-unclaimed
returns-in_default-clause-unclaimed g c =
    let untold =
    aside_untold g.W.Write.contents g.E.Write.contents c.in-Ok-Taken.taken.aside c.args.console.now c.tell_aside.new.console c.tell_aside.result c.in_default.not-Success c.tell_aside.ensures in
    let same : byte_of c.tell_aside.result ≡ c.from.result = cc in
    inl (
      c.in-Ok-Taken.taken,
      subst (λ (word : List ℕ). Claims g.F.TextFiles g.F.WritesFiles word c.args.words.now.replace (Ok (Taken c.in-Ok-Taken.taken)) c.args.files.now c.claim_files.new.files)
          c.as_str-word.ensures.value
          (subst (λ (came : Result Claim AllocError). Claims g.F.TextFiles g.F.WritesFiles c.as_str-word.result.now c.args.words.now.replace came c.args.files.now c.claim_files.new.files)
          (c.in-Ok-Taken.is ∙ ap (λ (claim : Claim). Ok claim) c.in-Ok-Taken.field-0-is) c.claim_files.ensures),
      untold.0,
      subst (λ (byte : ℕ). RunEnds g.W.Write.contents g.E.Write.contents PrintsNothing c.args.console.now c.tell_aside.new.console byte) same untold.1,
    )
