use Rattle.std.proofs.Common.{◌∙◌, Option, ap, option_map, subst, sym}
use Rattle.clap.specs.Words.{Text}
use Rattle.app_base.proofs.Readings.{refuses_none}
use Rattle.app_bmclab.specs.Places.{NamesPlaces}
use Rattle.app_bmclab.proofs.words.restarts.Goals as goal

pub returns-in_default-clause-named : goal.returns-in_default-clause-named
returns-in_default-clause-named c =
    let none = sym c.word_of.ensures ∙ ap (option_map (λ s. s.now)) c.in_default.is in
    subst (λ (word : Option Text). NamesPlaces word c.new.result.items) (sym none) c.new.ensures.items

pub returns-in-Ok-Some-clause-named : goal.returns-in-Ok-Some-clause-named
returns-in-Ok-Some-clause-named c =
    let some = sym c.word_of.ensures ∙ ap (option_map (λ s. s.now)) c.in-Some.is in
    subst (λ (word : Option Text). NamesPlaces word c.in-Ok-Some.places.items) (sym some) (rw c.in-Ok-Some.field-0-is at c.in-Ok-Some.ensures)

pub returns-in-Ok-None-clause-refused : goal.returns-in-Ok-None-clause-refused
returns-in-Ok-None-clause-refused c =
    let some = sym c.word_of.ensures ∙ ap (option_map (λ s. s.now)) c.in-Some.is in
    let none = rw c.in-Ok-None.field-0-is at c.in-Ok-None.ensures in
    refuses_none _ c.places_refusal.result (λ places named. none places (subst (λ (word : Option Text). NamesPlaces word places) some named))
