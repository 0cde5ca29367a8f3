use Rattle.std.proofs.Common.{inl}
use Rattle.model_lab.specs.Meaning.{lab_names}
use Rattle.app_apply.proofs.Out.{ends_last}
use Rattle.app_apply.proofs.driving.drive_last.Goals as goal

pub returns-in-Ok-clause-drives : goal.returns-in-Ok-clause-drives
returns-in-Ok-clause-drives g c s shows =
    ends_last c.args.turns s c.drive_heeded.new.manager c.in-Ok._left c.phase.result _ _ (c.in-Ok.ensures.stops s shows) (λ t shown. c.phase.ensures lab_names t shown)

pub returns-in-Err-clause-drives : goal.returns-in-Err-clause-drives
returns-in-Err-clause-drives g c s shows = inl (c.in-Err.ensures.stops s shows)
