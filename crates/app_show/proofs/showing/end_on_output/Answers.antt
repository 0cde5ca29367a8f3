use Rattle.std.proofs.Common.{ℕ, List, inl, subst}
use Rattle.app_base.specs.declared.console.Stream.TheVariants.{Output}
use Rattle.app_base.specs.declared.status.Status.TheVariants.{Success}
use Rattle.app_base.specs.Ending.{RunEnds}
use Rattle.app_show.specs.Show.{SaysText}
use Rattle.app_show.proofs.showing.end_on_output.Goals as goal

pub returns-in-Ok-say_counts : goal.returns-in-Ok-say_counts
returns-in-Ok-say_counts g c =
    let out = g.W.Write.contents in
    let err = g.E.Write.contents in
    let mid = c.say_counts.new.console in
    let printed = subst (λ (text : List ℕ). RunEnds out err (SaysText Output text Success) mid c.print_texts.new.console c.print_texts.result) c.in-Ok.ensures c.print_texts.ensures in
    inl (mid, c.args.counts.now, c.in-Ok-say_counts.ensures.said, printed)
