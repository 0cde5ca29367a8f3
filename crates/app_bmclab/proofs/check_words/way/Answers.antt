use Rattle.std.proofs.Common.{◌∙◌, ap, option_map, string_bytes, sym}
use Rattle.clap.specs.Words.{found_of, rows_of}
use Rattle.app_base.proofs.Readings.{refuses_none, refuses_on}
use Rattle.app_bmclab.proofs.Forms.{no_way, way_alone}
use Rattle.app_bmclab.proofs.check_words.way.Goals as goal

pub returns-in_err-form-clause-refused : goal.returns-in_err-form-clause-refused
returns-in_err-form-clause-refused c =
    let none = sym c.in_ok-board.ensures.word ∙ ap (option_map string_bytes) c.in_default.is in
    refuses_on _ _ _ _ c.from_residual-in_err-form.ensures.1 (way_alone (rows_of (found_of c.args.matches.now)) none) c.in_err-form.ensures.refused

pub returns-in_default-clause-way : goal.returns-in_default-clause-way
returns-in_default-clause-way c =
    let none = sym c.in_ok-board.ensures.word ∙ ap (option_map string_bytes) c.in_default.is in
    (none, c.in_ok-form.ensures.form)

pub returns-in-None-clause-way : goal.returns-in-None-clause-way
returns-in-None-clause-way c = (
  sym c.in_ok-board.ensures.word ∙ ap (option_map string_bytes) c.in-Some.is,
  sym c.word_of.ensures ∙ ap (option_map (λ s. s.now)) c.in-None.is,
)

pub returns-in-Some-word_of-clause-refused : goal.returns-in-Some-word_of-clause-refused
returns-in-Some-word_of-clause-refused c =
    let on = sym c.in_ok-board.ensures.word ∙ ap (option_map string_bytes) c.in-Some.is in
    let said = sym c.word_of.ensures ∙ ap (option_map (λ s. s.now)) c.in-Some-word_of.is in
    refuses_none _ c.way_refusal.result (no_way (rows_of (found_of c.args.matches.now)) _ _ on said)
