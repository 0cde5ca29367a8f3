use Rattle.std.proofs.Common.{◌∙◌, ◌^◌, ℕ, Option, ap, option_map, subst, sym}
use Rattle.std.specs.Option.{SomeIff}
use Rattle.std.specs.Str.Parse.{digits_value}
use Rattle.clap.specs.Words.{found_of, rows_of}
use Rattle.app_base.proofs.Numbers.{Below, no_number, none_named, number_named}
use Rattle.app_base.proofs.Readings.{refuses_none}
use Rattle.bmcnet.proofs.words.port_given.Goals as goal

pub returns-in_default-clause-port : goal.returns-in_default-clause-port
returns-in_default-clause-port c =
    none_named (2 ^ 16) (rows_of (found_of c.args.matches.now)) c.args.name.now (sym c.word_of.ensures ∙ ap (option_map (λ s. s.now)) c.in_default.is)

pub returns-in-None-clause-refused : goal.returns-in-None-clause-refused
returns-in-None-clause-refused c =
    let word = sym c.word_of.ensures ∙ ap (option_map (λ s. s.now)) c.in-Some.is in
    let none = subst (λ (o : Option ℕ). SomeIff o (Below (2 ^ 16) c.in-Some.word.now) (digits_value 10 c.in-Some.word.now)) c.in-None.is c.port_of.ensures in
    refuses_none _ c.number_refusal.result (no_number (2 ^ 16) (rows_of (found_of c.args.matches.now)) c.args.name.now c.in-Some.word.now word none)

pub returns-in-Some-port_of-clause-port : goal.returns-in-Some-port_of-clause-port
returns-in-Some-port_of-clause-port c =
    let word = sym c.word_of.ensures ∙ ap (option_map (λ s. s.now)) c.in-Some.is in
    let some = subst (λ (o : Option ℕ). SomeIff o (Below (2 ^ 16) c.in-Some.word.now) (digits_value 10 c.in-Some.word.now)) c.in-Some-port_of.is c.port_of.ensures in
    number_named (2 ^ 16) (rows_of (found_of c.args.matches.now)) c.args.name.now c.in-Some.word.now c.in-Some-port_of.port word some
