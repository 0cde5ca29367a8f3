use Rattle.std.proofs.Common.{◌∙◌, ap, map, ◌++◌, lit<}
use Rattle.std.proofs.lemmas.Iterator.Consumers.{YieldsList-at}
use Rattle.std.proofs.lemmas.Iterator.Splits.{YieldsList-from_str_split}
use Rattle.text_lines.proofs.Drained.{drained}
use Rattle.text_lines.proofs.schedule_cuts.lines.Goals as goal

pub returns : goal.returns
returns c =
    let r = c.in_ok-extend.ensures.ran in
    ap (map (λ x. x.now)) (r.3.0 ∙ ap (λ xs. xs ++ r.1) c.in_ok-lines.ensures.items)
    ∙ drained r.1 r.4 (YieldsList-at r.2 (YieldsList-from_str_split 10 c.args.text.now (lit< tt) c.split-2.ensures.text c.split-2.ensures.has_more c.split-2.ensures.pattern))
