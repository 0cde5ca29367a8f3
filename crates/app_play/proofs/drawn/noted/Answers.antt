use Rattle.app_play.proofs.Noted.{notes_of}
use Rattle.app_play.proofs.drawn.noted.Goals as goal

pub returns-in-Ok : goal.returns-in-Ok
returns-in-Ok c =
    notes_of c.args.file c.args.plan.steps c.args.plan.retries c.args.events.now c.play_noted.new.notes.items c.play_noted.result c.in-Ok.ended.played c.in-Ok.ended.stopped c.in-Ok.ensures
    c.play_noted.ensures.plays c.play_noted.ensures.noted
