use Rattle.std.proofs.Common.{◌∙◌, ap, option_map, sym}
use Rattle.clap.specs.Words.{found_of, rows_of}
use Rattle.app_base.proofs.Readings.{refuses_none}
use Rattle.app_bmclab.proofs.Forms.{form_called, no_form, none_called}
use Rattle.app_bmclab.proofs.check_words.form.Goals as goal

pub returns-in_default-clause-form : goal.returns-in_default-clause-form
returns-in_default-clause-form c =
    none_called (rows_of (found_of c.args.matches.now))
    (sym c.word_of.ensures ∙ ap (option_map (λ s. s.now)) c.in_default.is)

pub returns-in-None-clause-refused : goal.returns-in-None-clause-refused
returns-in-None-clause-refused c =
    let word = sym c.word_of.ensures ∙ ap (option_map (λ s. s.now)) c.in-Some.is in
    refuses_none _ c.form_refusal.result (no_form (rows_of (found_of c.args.matches.now)) c.in-Some.word.now word (sym c.named.ensures ∙ c.in-None.is))

pub returns-in-Some-named-clause-form : goal.returns-in-Some-named-clause-form
returns-in-Some-named-clause-form c =
    let word = sym c.word_of.ensures ∙ ap (option_map (λ s. s.now)) c.in-Some.is in
    form_called (rows_of (found_of c.args.matches.now)) c.in-Some.word.now c.in-Some-named.form word (sym c.named.ensures ∙ c.in-Some-named.is)
