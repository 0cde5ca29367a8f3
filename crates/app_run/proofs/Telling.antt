-- What came of a run, and what is said of it.
use Rattle.std.specs.Prelude.{Option}
use Rattle.std.proofs.Common.{◌≡◌, ◌⊎◌, inl, inr, ℕ, List, Ok, Err}
use Rattle.app_base.specs.declared.console.Console.{Console}
use Rattle.app_base.specs.declared.console.Stream.{Stream}
use Rattle.app_base.specs.declared.status.Status.{Status}
use Rattle.app_base.specs.declared.ending.ReportFault.TheVariants.{Memory}
use Rattle.app_base.specs.Ending.{RunEnds, SaysReport}
use Rattle.app_base.specs.EndingLaws.{run_reports}

-- a reader that answers a value wasn't refused memory
pub was_read : {A E R : Type 0} (a : A) (why : E) → (Ok a ≡ Err why) ⊎ R → R
was_read a why (inl e) = cc e
was_read a why (inr r) = r

-- memory was refused, so nothing else is said
pub says_memory : {W E : Type 0} (out : W → Option (List ℕ)) (err : E → Option (List ℕ)) (says : Stream → List ℕ → Status → Type 0) (old new : Console W E) (result : ℕ)
    → RunEnds out err (SaysReport (Err Memory)) old new result → RunEnds out err says old new result
says_memory out err says old new result ends = run_reports out err says (Err Memory) old new result tt ends
