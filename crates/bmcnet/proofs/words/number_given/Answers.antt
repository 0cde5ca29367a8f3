use Rattle.std.proofs.Common.{◌∙◌, ℕ, Option, ap, option_map, subst, sym}
use Rattle.std.specs.Option.{SomeIff}
use Rattle.std.specs.Str.Parse.{digits_value}
use Rattle.clap.specs.Words.{found_of, rows_of}
use Rattle.app_base.proofs.Readings.{refuses_none}
use Rattle.bmcnet.proofs.Readings.{FitsFrom, no_option, option_named}
use Rattle.bmcnet.proofs.words.number_given.Goals as goal

pub returns-in_default-clause-number : goal.returns-in_default-clause-number
returns-in_default-clause-number c =
    sym c.word_of.ensures ∙ ap (option_map (λ s. s.now)) c.in_default.is

pub returns-in-None-clause-refused : goal.returns-in-None-clause-refused
returns-in-None-clause-refused c =
    let word = sym c.word_of.ensures ∙ ap (option_map (λ s. s.now)) c.in-Some.is in
    let none = subst (λ (o : Option ℕ). SomeIff o (FitsFrom c.args.least c.in-Some.word.now) (digits_value 10 c.in-Some.word.now)) c.in-None.is c.number_from.ensures in
    refuses_none _ c.option_refusal.result (no_option c.args.least (rows_of (found_of c.args.matches.now)) c.args.name.now c.in-Some.word.now word none)

pub returns-in-Some-number_from-clause-number : goal.returns-in-Some-number_from-clause-number
returns-in-Some-number_from-clause-number c =
    let word = sym c.word_of.ensures ∙ ap (option_map (λ s. s.now)) c.in-Some.is in
    let some = subst (λ (o : Option ℕ). SomeIff o (FitsFrom c.args.least c.in-Some.word.now) (digits_value 10 c.in-Some.word.now)) c.in-Some-number_from.is c.number_from.ensures in
    option_named c.args.least (rows_of (found_of c.args.matches.now)) c.args.name.now c.in-Some.word.now c.in-Some-number_from.number word some
