use Rattle.std.proofs.Common.{string_bytes}
use Rattle.app_play.proofs.RestartRows.{turn_added}
use Rattle.app_play.proofs.restart_rows.push_turn.Goals as goal

pub returns : goal.returns
returns c notes n place earlier all =
    turn_added c.push_behind.result c.args.places.now notes n c.args.place c.args.note.now c.has_place.result
    (string_bytes c.args.text.now) (string_bytes c.push_event.new.text) (string_bytes c.push_behind.new.text) place c.has_place.ensures
    (c.in_ok-push_event.ensures notes n place earlier all) c.push_behind.ensures
