-- One outlook more, behind those before it.
use Rattle.std.proofs.Common.{◌≡◌, ◌⊎◌, inl, inr, ◌∙◌, ℕ, zero, suc, List, [], ◌∷◌, ◌++◌, length, Option, Some, refl, sym, ap, subst, arith}
use Rattle.std.proofs.lemmas.Option.{slice_get_within}
use Rattle.std.specs.Prelude.{slice_get}
use Rattle.std.specs.Option.{unwrap_or}
use Rattle.record_base.specs.declared.op.Op.{Op}
use Rattle.app_look.specs.declared.records.Found.{Found}
use Rattle.app_change.specs.declared.outlooks.Outlook.{Outlook}
use Rattle.app_change.specs.Outlooks.{EachTold, IsOutlook}

-- what stands behind another list is the last, or stands in that
last_or_before : (xs : List Outlook) (y : Outlook) (k : ℕ) (x : Outlook) → slice_get (xs ++ y ∷ []) k ≡ Some x → (slice_get xs k ≡ Some x) ⊎ ((k ≡ length xs) × (y ≡ x))
last_or_before [] y zero x is = inr (refl, ap (λ (o : Option Outlook). unwrap_or o y) is)
last_or_before [] y (suc k) x is = let within = slice_get_within (y ∷ []) (suc k) x is in absurd (omega (arith, within))
last_or_before (first ∷ xs) y zero x is = inl is
last_or_before (first ∷ xs) y (suc k) x is = by (last_or_before xs y k x is) where
  by : (slice_get xs k ≡ Some x) ⊎ ((k ≡ length xs) × (y ≡ x)) → (slice_get (first ∷ xs) (suc k) ≡ Some x) ⊎ ((suc k ≡ length (first ∷ xs)) × (y ≡ x))
  by (inl before) = inl before
  by (inr last) = inr (ap suc last.0, last.1)

-- none is told of anything else than its place
pub none_told : (steps : List Op) (found : List Found) (outlooks : List Outlook) → outlooks ≡ [] → EachTold steps found outlooks
none_told steps found outlooks none place op of told at_step at_found at =
    let within = slice_get_within [] place told (subst (λ (l : List Outlook). slice_get l place ≡ Some told) none at) in absurd (omega (arith, within))

-- the outlook of the next step
pub told_more : (steps : List Op) (found : List Found) (outlooks now : List Outlook) (place : ℕ) (of : Found) (one : Outlook) → length outlooks ≡ place
    → EachTold steps found outlooks → slice_get found place ≡ Some of → ((op : Op) → slice_get steps place ≡ Some op → IsOutlook steps place op of.came one)
    → now ≡ outlooks ++ one ∷ [] → EachTold steps found now
told_more steps found outlooks now place of one long told at is grown k op other it at_step at_found at_told =
    by (last_or_before outlooks one k it (subst (λ (l : List Outlook). slice_get l k ≡ Some it) grown at_told)) where
      by : (slice_get outlooks k ≡ Some it) ⊎ ((k ≡ length outlooks) × (one ≡ it)) → IsOutlook steps k op other.came it
      by (inl before) = told k op other it at_step at_found before
      by (inr last) =
          let here : k ≡ place = last.0 ∙ long in
          let same : of ≡ other = ap (λ (o : Option Found). unwrap_or o of) (sym at ∙ subst (λ (n : ℕ). slice_get found n ≡ Some other) here at_found) in
          subst (λ (o : Outlook). IsOutlook steps k op other.came o) last.1
          (subst (λ (f : Found). IsOutlook steps k op f.came one) same
          (subst (λ (n : ℕ). IsOutlook steps n op of.came one) (sym here) (is op (subst (λ (n : ℕ). slice_get steps n ≡ Some op) here at_step))))
