use Rattle.std.proofs.Common.{not, refl, ℕ, ◌-◌, rules, tests}
use Rattle.std.proofs.lemmas.Iterator.{YieldsList-from_range}
use Rattle.std.proofs.lemmas.Iterator.Consumers.{YieldsList-from_filter, count_from_yields_List}
use Rattle.app_play.specs.Arrivals.{came_at}
use Rattle.app_play.proofs.arrivals.Arrivals.lost.Goals as goal

pub returns : goal.returns
returns c notes holds =
    count_from_yields_List c.filter.result _ c.count.ensures.ran
    (YieldsList-from_filter _ (λ (n : ℕ). not (came_at notes n)) (YieldsList-from_range c.args.from c.args.to (c.args.to - c.args.from) (cc) refl) c.filter.ensures.closure (λ x b q k. search (rules, tests, holds)))
