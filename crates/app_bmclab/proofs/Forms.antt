-- What words call files.
use Rattle.std.proofs.Common.{◌≡◌, ◌∙◌, List, Option, Some, None, codes, refl, subst, sym}
use Rattle.clap.specs.Words.{Row, Text, first_of}
use Rattle.text_check.specs.declared.text_form.TextForm.{TextForm}
use Rattle.text_check.specs.Looks.{form_named}
use Rattle.app_base.proofs.Readings.{none_there}
use Rattle.app_bmclab.specs.declared.check_words.CheckWay.{CheckWay}
use Rattle.app_bmclab.specs.declared.check_words.CheckWay.TheVariants.{Alone, Against}
use Rattle.app_bmclab.specs.Looked.{AsksForm, AsksWay, CallsForm}

pub none_called : (rows : List Row) → first_of (codes "as") rows ≡ None → AsksForm rows None
none_called rows is = subst (λ (o : Option Text). CallsForm o None) (sym is) refl

pub form_called : (rows : List Row) (word : Text) (form : TextForm) → first_of (codes "as") rows ≡ Some word → form_named word ≡ Some form → AsksForm rows (Some form)
form_called rows word form is named = subst (λ (o : Option Text). CallsForm o (Some form)) (sym is) (form, refl, named)

pub no_form : (rows : List Row) (word : Text) → first_of (codes "as") rows ≡ Some word → form_named word ≡ None → (said : Option TextForm) → AsksForm rows said → ⊥
no_form rows word is none said asks =
    let there : CallsForm (Some word) said = subst (λ (o : Option Text). CallsForm o said) is asks in
    let bad : None ≡ Some there.0 = sym none ∙ there.2 in
    cc

-- what is asked for without a board says what the files are, if anything does
pub way_alone : (rows : List Row) → first_of (codes "against") rows ≡ None → (way : CheckWay) → AsksWay rows way → (said : Option TextForm) × AsksForm rows said
way_alone rows none (Alone said) asks = (said, asks.1)
way_alone rows none (Against board) asks = absurd (none_there _ _ none asks.0)

-- a board and a form together ask for nothing
pub no_way : (rows : List Row) (board word : Text) → first_of (codes "against") rows ≡ Some board → first_of (codes "as") rows ≡ Some word → (way : CheckWay) → AsksWay rows way → ⊥
no_way rows board word on said (Alone form) asks = none_there _ _ asks.0 on
no_way rows board word on said (Against other) asks = none_there _ _ asks.1 said
