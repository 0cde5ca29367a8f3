-- Options that stand beside each other.
use Rattle.std.specs.Prelude.{is_some}
use Rattle.std.proofs.Common.{◌≡◌, refl, subst, Bool, Option, None, Some, option_map}
use Rattle.bmcnet.specs.Asked.{StandBeside}

-- options that are the same stand beside each other, too
pub same_options : (clock repeats periods readings ticks anew counted file : Bool) → clock ≡ ticks → repeats ≡ anew → periods ≡ counted → readings ≡ file
    → StandBeside clock repeats periods readings → StandBeside ticks anew counted file
same_options clock repeats periods readings ticks anew counted file one two three four stand =
    subst (λ (flag : Bool). StandBeside flag anew counted file) one
    (subst (λ (flag : Bool). StandBeside clock flag counted file) two
    (subst (λ (flag : Bool). StandBeside clock repeats flag file) three
    (subst (λ (flag : Bool). StandBeside clock repeats periods flag) four stand)))

-- something is there as long as it is there in another form
pub there_as : {A B : Type 0} (form : A → B) (found : Option A) → is_some found ≡ is_some (option_map form found)
there_as form None = refl
there_as form (Some found) = refl
