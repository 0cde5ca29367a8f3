use Rattle.wire_links.proofs.LongScripts.{has_a_long_one}
use Rattle.wire_links.proofs.mem_link.read_script.Goals as goal

pub returns-then-bytes-gt-MOST_FRAME_BYTES-clause-too_long :
    goal.returns-then-bytes-gt-MOST_FRAME_BYTES-clause-too_long
returns-then-bytes-gt-MOST_FRAME_BYTES-clause-too_long c is all =
    has_a_long_one c.args.script.now c.loop-bytes.bytes-index _ c.loop-bytes-test.true c.if-bytes-gt-MOST_FRAME_BYTES.true all
