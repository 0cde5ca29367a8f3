use Rattle.std.proofs.Common.{string_bytes}
use Rattle.app_play.proofs.Frames.{text_more}
use Rattle.app_play.proofs.lines.push_frames.Goals as goal

pub loop-number-preserved : goal.loop-number-preserved
loop-number-preserved c =
    text_more c.args.frames.now c.loop-number.number c.index-frames-number.result c.loop-number-test.true c.index-frames-number.is
    (string_bytes c.args.text.now) (string_bytes c.loop-number.text) (string_bytes c.push_frame.new.text) c.loop-number.invariant c.in_ok-push_frame.ensures
