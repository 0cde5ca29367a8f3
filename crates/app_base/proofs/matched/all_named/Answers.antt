use Rattle.std.proofs.Common.{◌∙◌, Some, map, option_map, sym, ap}
use Rattle.std.proofs.lemmas.Result.{IfOk-weaker}
use Rattle.clap.specs.Words.{found_of}
use Rattle.clap.proofs.WalkLemmas.{raw_values-rows}
use Rattle.app_base.proofs.Readings.{none_there, refuses_none}
use Rattle.app_base.proofs.matched.all_named.Goals as goal

pub returns-in-Some-clause-words : goal.returns-in-Some-clause-words
returns-in-Some-clause-words c =
    let rows = sym (raw_values-rows (found_of c.args.matches.now) c.args.name.now) ∙ sym c.get_strs.ensures in
    let words = ap (option_map (λ s. map (λ v. v.now) s.now)) c.in-Some.is in
    IfOk-weaker c.all_kept.result _ _ (λ kept is. rows ∙ words ∙ ap Some (sym is)) c.all_kept.ensures.words

pub returns-in-None-clause-refused : goal.returns-in-None-clause-refused
returns-in-None-clause-refused c =
    let rows = sym (raw_values-rows (found_of c.args.matches.now) c.args.name.now) ∙ sym c.get_strs.ensures in
    let missing = rows ∙ ap (option_map (λ s. map (λ v. v.now) s.now)) c.in-None.is in
    refuses_none _ c.lacking.result (λ words given. none_there _ words missing given)
