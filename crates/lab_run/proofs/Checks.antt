-- The first of three checks, by the first of the first two.
use Rattle.std.proofs.Common.{◌≡◌, ℕ, Bool, true, false, Option, List, [], ◌∷◌, None, Some, refl, sym, ◌∙◌, subst}
use Rattle.two_wire.specs.declared.Bus.{Bus}
use Rattle.undo_plans.specs.declared.names.Names.{Names}
use Rattle.model_lab.specs.Lab.{Lab}
use Rattle.model_lab.specs.declared.fault.Fault.{Fault}
use Rattle.model_lab.specs.declared.fault.Fault.TheVariants.{Changing, Impersonates, Room}
use Rattle.model_lab.specs.Faults.{Check, check, first_of, is_own, is_full}
use Rattle.model_lab.specs.Played.{plans}

-- the first of two is the first of three
pub by_two : (f g h : Fault) (a b d : Bool) (k : Fault) → first_of (check f a ∷ check g b ∷ []) ≡ Some k → first_of (check f a ∷ check g b ∷ check h d ∷ []) ≡ Some k
by_two f g h true b d k is = is
by_two f g h false true d k is = is
by_two f g h false false d k is = cc is

-- where neither holds, it is the third's
pub by_third : (f g h : Fault) (a b d : Bool) → first_of (check f a ∷ check g b ∷ []) ≡ None → first_of (check f a ∷ check g b ∷ check h d ∷ []) ≡ first_of (check h d ∷ [])
by_third f g h true b d none = cc none
by_third f g h false true d none = cc none
by_third f g h false false d none = refl

-- ---- what others do: the names of the code are those of the lab's manager

module _ (x : Lab plans) (names : Names) (same : names ≡ x.manager.names) (changing : Bool) (on : Bus) (from : ℕ) where
  -- the first two checks
  abbrev pub two : Names → List Check
  two other = check Changing changing ∷ check Impersonates (is_own on other from) ∷ []

  -- one of them holds
  pub other_faulty : (f : Fault) → Some f ≡ first_of (two names)
      → Some f ≡ first_of (check Changing changing ∷ check Impersonates (is_own on x.manager.names from) ∷ check Room (is_full plans x) ∷ [])
  other_faulty f is = sym (by_two Changing Impersonates Room changing (is_own on x.manager.names from) (is_full plans x) f (sym (subst (λ (other : Names). Some f ≡ first_of (two other)) same is)))

  -- none holds
  pub other_room : (found : Option Fault) → None ≡ first_of (two names) → found ≡ first_of (check Room (is_full plans x) ∷ [])
      → found ≡ first_of (check Changing changing ∷ check Impersonates (is_own on x.manager.names from) ∷ check Room (is_full plans x) ∷ [])
  other_room found none left = left ∙ sym (by_third Changing Impersonates Room changing (is_own on x.manager.names from) (is_full plans x) (sym (subst (λ (other : Names). None ≡ first_of (two other)) same none)))
