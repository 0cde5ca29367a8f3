use Rattle.std.proofs.Common.{rules, ◌≡◌, ◌++◌, codes, string_bytes}
use Rattle.record_words.specs.NameWords.{record_words}
use Rattle.app_revert.specs.Sentences.{sight_words}
use Rattle.app_revert.proofs.Lines.{line_added}
use Rattle.app_revert.proofs.reverted_words.push_sighting.Goals as goal

pub returns : goal.returns
returns c =
    let said : c.as_str.result.now ≡ record_words c.args.sighting.now.key ++ (codes " " ++ (sight_words c.args.sighting.now.sight ++ codes "\n")) = search rules in
    line_added c.push_named.result (string_bytes c.args.text.now) (string_bytes c.push_named.new.text) c.args.names.now c.args.sighting.now.key _ c.as_str.result.now
    (codes " " ++ (sight_words c.args.sighting.now.sight ++ codes "\n")) c.name_in.ensures said c.push_named.ensures
