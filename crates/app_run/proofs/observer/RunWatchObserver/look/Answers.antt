use Rattle.app_run.proofs.observer.RunWatchObserver.look.Goals as goal

pub returns : goal.returns
returns g c =
    let kept = c.look-allowed.ensures in
    let told = c.look.ensures in (kept.0, kept.1, told.1, told.2, kept.2, told.3)
