use Rattle.std.proofs.Common.{◌∙◌, ap}
use Rattle.clap.specs.Words.{found_of}
use Rattle.clap.proofs.WalkLemmas.{one_text-rows}
use Rattle.app_base.specs.Asked.{says_yes}
use Rattle.app_base.proofs.matched.has_flag.Goals as goal

pub returns : goal.returns
returns c = c.has_yes.ensures ∙ ap says_yes (one_text-rows (found_of c.args.matches.now) c.args.name.now)
