use Rattle.std.proofs.Common.{Ok, Err, sym}
use Rattle.ipmb_frame.proofs.Faultless.{none-faultless}
use Rattle.ipmb_frame.proofs.Whole.{reads_whole}
use Rattle.ipmb_frame.proofs.reading.read_frame.Goals as goal

pub read_message-requires : goal.read_message-requires
read_message-requires c = none-faultless c.args.bytes.now (sym c.in-None.ensures)

pub returns-in-None-clause-whole : goal.returns-in-None-clause-whole
returns-in-None-clause-whole c = reads_whole (Ok _) _ c.in-None.ensures c.read_message.ensures

pub returns-in-Some-clause-whole : goal.returns-in-Some-clause-whole
returns-in-Some-clause-whole c = reads_whole (Err _) _ c.in-Some.ensures tt
