use Rattle.std.proofs.Common.{sym, ◌∙◌, subst}
use Rattle.text_lines.specs.Cuts.{LacksByte}
use Rattle.text_lines.proofs.Cuts.{same_cut, not_lacking}
use Rattle.text_lines.proofs.laws.one_cut.Goals as goal

pub returns-clause-same : goal.returns-clause-same
returns-clause-same c mark text front back before after p q =
    same_cut mark front back before after (sym p.parts ∙ q.parts) p.first q.first

pub returns-clause-there : goal.returns-clause-there
returns-clause-there c mark text front back p h = not_lacking mark front back (subst (LacksByte mark) p.parts h)
