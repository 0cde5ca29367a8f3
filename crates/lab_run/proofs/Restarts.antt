-- A manager that is made anew of a journal.
use Rattle.std.proofs.Common.{◌≡◌, Result, Ok, Err, IfOk, subst}
use Rattle.undo_plans.specs.KeptManager.{Kept}
use Rattle.undo_core.specs.declared.manager.Manager.{Manager}
use Rattle.undo_core.specs.Shown.{IsRemade}
use Rattle.undo_core.specs.Journals.{kept_by, IsRevived}
use Rattle.undo_core.proofs.Journals.{reviving_is_restarting}

-- one that is made of this manager's journal is one that is made again of it
pub made_again : {E : Type 0} (old : Manager) (kept : Kept) (r : Result Manager E) → kept ≡ kept_by old → IfOk r (λ m. IsRevived kept m) → IfOk r (λ m. IsRemade old m)
made_again old kept (Ok m) is revived = reviving_is_restarting old m (subst (λ (k : Kept). IsRevived k m) is revived)
made_again old kept (Err e) is revived = tt
