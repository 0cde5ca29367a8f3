-- What is said of a journal that was put aside.
use Rattle.std.specs.Prelude.{Option, IsSome, String}
use Rattle.std.specs.declared.alloc.Global.{Global}
use Rattle.std.proofs.Common.{◌≡◌, ℕ, List, inl, inr}
use Rattle.app_base.specs.declared.console.Console.{Console}
use Rattle.app_base.specs.declared.status.Status.{Status}
use Rattle.app_base.specs.declared.status.Status.TheVariants.{Success}
use Rattle.app_base.specs.Ending.{RunEnds}
use Rattle.app_base.specs.Report.{byte_of}
use Rattle.app_run.specs.Ends.{PrintsNothing}
use Rattle.app_run.specs.Run.{AsideIsTold, TellsAside}

module _ {W E : Type 0} (out : W → Option (List ℕ)) (err : E → Option (List ℕ)) (aside : Option (String Global)) (old new : Console W E) (status : Status) where
  -- it was said
  pub aside_told : status ≡ Success → AsideIsTold out err aside old new status → TellsAside out err aside old new
  aside_told is (inl (same, told)) = told
  aside_told is (inr (other, some, ends)) = absurd (other is)

  -- it wasn't
  pub aside_untold : (status ≡ Success → ⊥) → AsideIsTold out err aside old new status → IsSome aside × RunEnds out err PrintsNothing old new (byte_of status)
  aside_untold not (inl (same, told)) = absurd (not same)
  aside_untold not (inr (other, some, ends)) = (some, ends)
