use Rattle.std.proofs.Common.{◌∙◌, ℕ, Option, ap, option_map, subst, sym}
use Rattle.std.specs.Option.{SomeIff}
use Rattle.std.specs.Str.Parse.{digits_value}
use Rattle.clap.specs.Words.{found_of, rows_of}
use Rattle.app_base.proofs.Readings.{refuses_none}
use Rattle.app_base.proofs.Numbers.{Below, no_number, none_named, number_named}
use Rattle.app_bmclab.proofs.schedule_words.percent.Goals as goal

pub returns-in_default-clause-percent : goal.returns-in_default-clause-percent
returns-in_default-clause-percent c =
    none_named c.args.end (rows_of (found_of c.args.matches.now)) c.args.name.now
    (sym c.word_of.ensures ∙ ap (option_map (λ s. s.now)) c.in_default.is)

pub returns-in-None-clause-refused : goal.returns-in-None-clause-refused
returns-in-None-clause-refused c =
    let word = sym c.word_of.ensures ∙ ap (option_map (λ s. s.now)) c.in-Some.is in
    let none = subst (λ (o : Option ℕ). SomeIff o (Below c.args.end c.in-Some.word.now) (digits_value 10 c.in-Some.word.now)) c.in-None.is c.percent_of.ensures in
    refuses_none _ c.number_refusal.result (no_number c.args.end (rows_of (found_of c.args.matches.now)) c.args.name.now c.in-Some.word.now word none)

pub returns-in-Some-percent_of-clause-percent : goal.returns-in-Some-percent_of-clause-percent
returns-in-Some-percent_of-clause-percent c =
    let word = sym c.word_of.ensures ∙ ap (option_map (λ s. s.now)) c.in-Some.is in
    let some = subst (λ (o : Option ℕ). SomeIff o (Below c.args.end c.in-Some.word.now) (digits_value 10 c.in-Some.word.now)) c.in-Some-percent_of.is c.percent_of.ensures in
    number_named c.args.end (rows_of (found_of c.args.matches.now)) c.args.name.now c.in-Some.word.now c.in-Some-percent_of.percent word some
