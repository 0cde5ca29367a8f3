use Rattle.std.proofs.Common.{◌∙◌}
use Rattle.app_show.proofs.Plans.{begun}
use Rattle.app_show.proofs.backup.Backup.begin_plan.Goals as goal

pub returns-clause-steps : goal.returns-clause-steps
returns-clause-steps c =
    begun c.push_reserved.new.self.items c.reserve.new.self.items c.args.self.now.full.items c.replace-full.result c.args.self.now.last c.replace-full.new.dest c.push_reserved.ensures.items
    c.reserve.ensures.items c.replace-full.ensures.value (c.replace-full.ensures.after ∙ c.none.ensures)
