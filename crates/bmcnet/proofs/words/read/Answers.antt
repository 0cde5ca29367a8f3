use Rattle.std.proofs.Common.{refl}
use Rattle.std.proofs.lemmas.Result.{IfOk-weaker, IfErr-weaker}
use Rattle.clap.specs.Words.{app_of, subcommand_rows_of}
use Rattle.app_base.proofs.Readings.{refuses_more, refuses_unless}
use Rattle.app_base.proofs.CommandLine.{asks_for, asks_by, lacks_memory}
use Rattle.bmcnet.specs.Asked.{AsksBy}
use Rattle.bmcnet.specs.Line.{program}
use Rattle.bmcnet.proofs.words.read.Goals as goal

pub returns-in-Ok-try_get_matches_from-clause-asked :
    goal.returns-in-Ok-try_get_matches_from-clause-asked
returns-in-Ok-try_get_matches_from-clause-asked c =
    let told = c.in-Ok-try_get_matches_from.ensures in
    IfOk-weaker c.matched_words.result _ _
    (λ asked asks. asks_for program AsksBy (app_of c.in-Ok.command) _ c.in-Ok.ensures (subcommand_rows_of c.in-Ok-try_get_matches_from.matches) refl (λ simple. (told.matches simple).1) refl told.kinds asked asks)
    c.matched_words.ensures.asked

pub returns-in-Ok-try_get_matches_from-clause-refused :
    goal.returns-in-Ok-try_get_matches_from-clause-refused
returns-in-Ok-try_get_matches_from-clause-refused c =
    let told = c.in-Ok-try_get_matches_from.ensures in
    IfErr-weaker c.matched_words.result _ _
    (λ refusal refused. refuses_more _ _ refusal
    (asks_by program AsksBy (app_of c.in-Ok.command) _ c.in-Ok.ensures (subcommand_rows_of c.in-Ok-try_get_matches_from.matches) refl (λ simple. (told.matches simple).1))
    refused)
    c.matched_words.ensures.refused

pub returns-in-Err-clause-refused : goal.returns-in-Err-clause-refused
returns-in-Err-clause-refused c =
    refuses_unless _ c.refusal_of.result
    (λ asked asks. c.refusal_of.ensures (lacks_memory program AsksBy (app_of c.in-Ok.command) _ c.in-Ok.ensures c.in-Err.error refl c.in-Err.ensures.kinds asked asks))
