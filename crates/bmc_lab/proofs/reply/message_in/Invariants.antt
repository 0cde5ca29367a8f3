use Rattle.std.proofs.Common.{take}
use Rattle.bmc_lab.specs.Reply.{AreCarried}
use Rattle.bmc_lab.proofs.reply.message_in.Given as goal

abbrev pub invariant-loop-frame : goal.invariant-loop-frame
invariant-loop-frame l = AreCarried (take l.frame-index l.frames) l.message.items
