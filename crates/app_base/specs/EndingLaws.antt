-- How a run ends, where what it says may be said of something else.
use Rattle.std.proofs.Common.{inl, inr, ℕ, List, Option, [], Result, Ok, Err, sym, subst, string_bytes}
use Rattle.app_base.specs.declared.console.Console.{Console}
use Rattle.app_base.specs.declared.console.Stream.{Stream}
use Rattle.app_base.specs.declared.console.Stream.TheVariants.{Error}
use Rattle.app_base.specs.declared.status.Status.{Status}
use Rattle.app_base.specs.declared.report.Report.{Report}
use Rattle.app_base.specs.declared.ending.ReportFault.{ReportFault}
use Rattle.app_base.specs.declared.ending.ReportFault.TheVariants as untold
use Rattle.app_base.specs.Ending.{Saying, RunEnds, SaysReport, ReportTells}

-- Where a second run may say all that a first may say, and the first ends so, the second ends so too.
pub run_ends_as : {W E : Type 0} (out : W → Option (List ℕ)) (err : E → Option (List ℕ)) (says other : Saying) (old new : Console W E) (result : ℕ)
    → ((stream : Stream) (text : List ℕ) (status : Status) → says stream text status → other stream text status)
    → RunEnds out err says old new result → RunEnds out err other old new result
run_ends_as out err says other old new result goes (inl failed) = inl failed
run_ends_as out err says other old new result goes (inr (inl memory)) = inr (inl memory)
run_ends_as out err says other old new result goes (inr (inr (stream, text, status, said, ends, written))) =
    inr (inr (stream, text, status, goes stream text status said, ends, written))

-- where what a report says may be said, a run that ends by the report says it
pub reports : (says : Saying) (report : Result Report ReportFault) → ReportTells says report → (stream : Stream) (text : List ℕ) (status : Status)
    → SaysReport report stream text status → says stream text status
reports says (Ok report) tells stream text status (to, said, ends) =
    subst (λ (s : Stream). says s text status) (sym to) (subst (λ (t : List ℕ). says report.stream t status) (sym said) (subst (says report.stream (string_bytes report.text)) (sym ends) tells))
reports says (Err untold.Memory) tells stream text status said = absurd said
reports says (Err untold.Stopped) tells stream text status (to, said, ends) =
    subst (λ (s : Stream). says s text status) (sym to) (subst (λ (t : List ℕ). says Error t status) (sym said) (subst (says Error []) (sym ends) tells))

pub run_reports : {W E : Type 0} (out : W → Option (List ℕ)) (err : E → Option (List ℕ)) (says : Saying) (report : Result Report ReportFault) (old new : Console W E) (result : ℕ)
    → ReportTells says report → RunEnds out err (SaysReport report) old new result → RunEnds out err says old new result
run_reports out err says report old new result tells ends = run_ends_as out err (SaysReport report) says old new result (reports says report tells) ends
