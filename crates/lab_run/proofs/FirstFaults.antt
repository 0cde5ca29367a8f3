-- The first of a few faults.
use Rattle.std.proofs.Common.{◌≡◌, Bool, true, false, [], ◌∷◌, Some, None, refl}
use Rattle.model_lab.specs.declared.fault.Fault.TheVariants.{Changing, Impersonates}
use Rattle.model_lab.specs.Faults.{check, first_of}

pub by_changing : (changing own : Bool) → changing ≡ true → Some Changing ≡ first_of (check Changing changing ∷ check Impersonates own ∷ [])
by_changing changing own is = rw is refl

pub by_own : (changing own : Bool) → changing ≡ false → own ≡ true → Some Impersonates ≡ first_of (check Changing changing ∷ check Impersonates own ∷ [])
by_own changing own kept is = rw (kept, is) refl

pub by_none : (changing own : Bool) → changing ≡ false → own ≡ false → None ≡ first_of (check Changing changing ∷ check Impersonates own ∷ [])
by_none changing own kept another = rw (kept, another) refl
