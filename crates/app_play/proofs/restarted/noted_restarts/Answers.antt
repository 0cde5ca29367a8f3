use Rattle.app_play.proofs.RestartedRuns.{notes_of}
use Rattle.app_play.proofs.restarted.noted_restarts.Goals as goal

pub returns-in-Ok : goal.returns-in-Ok
returns-in-Ok c =
    notes_of c.args.places.now c.args.file c.args.plan.steps c.args.plan.retries c.args.events.now c.play_restarting.new.notes.items c.play_restarting.result c.in-Ok.ended.played c.in-Ok.ended.stopped c.in-Ok.ensures
    c.play_restarting.ensures.plays c.play_restarting.ensures.noted
