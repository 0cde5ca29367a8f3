use Rattle.std.specs.Prelude.{is_some}
use Rattle.std.proofs.Common.{◌∙◌, ap, sym}
use Rattle.app_base.proofs.Readings.{refuses_none}
use Rattle.bmcnet.proofs.Options.{same_options, there_as}
use Rattle.bmcnet.proofs.words.stand_beside.Goals as goal

pub returns-in-None-clause-fits : goal.returns-in-None-clause-fits
returns-in-None-clause-fits c =
    same_options c.has_flag-clock.result c.has_flag-repeats.result c.has_flag-periods.result c.is_some-readings.result _ _ _ _
    c.has_flag-clock.ensures
    c.has_flag-repeats.ensures
    c.has_flag-periods.ensures
    (c.is_some-readings.ensures ∙ there_as (λ s. s.now) c.word_of.result ∙ ap is_some c.word_of.ensures)
    c.in-None.ensures.fits

pub returns-in-Some-clause-refused : goal.returns-in-Some-clause-refused
returns-in-Some-clause-refused c =
    refuses_none _ c.refusal_by.result
    (λ none stand. c.in-Some.ensures.misfits
    (same_options _ _ _ _ c.has_flag-clock.result c.has_flag-repeats.result c.has_flag-periods.result c.is_some-readings.result
    (sym c.has_flag-clock.ensures)
    (sym c.has_flag-repeats.ensures)
    (sym c.has_flag-periods.ensures)
    (sym (c.is_some-readings.ensures ∙ there_as (λ s. s.now) c.word_of.result ∙ ap is_some c.word_of.ensures))
    stand))
