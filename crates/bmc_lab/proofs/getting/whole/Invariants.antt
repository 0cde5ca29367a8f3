use Rattle.std.proofs.Common.{◌≡◌, map, take}
use Rattle.bmc_lab.specs.Answers.{body_of, whole_of}
use Rattle.bmc_lab.proofs.getting.whole.Given as goal

abbrev pub invariant-loop-reply : goal.invariant-loop-reply
invariant-loop-reply l = l.shown.items ≡ whole_of (map body_of (take l.reply-index l.replies))
