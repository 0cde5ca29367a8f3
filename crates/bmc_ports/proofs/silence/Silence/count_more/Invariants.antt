use Rattle.std.proofs.Common.{◌≡◌, ◌<◌, ◌≤◌, ◌+◌, ℕ, min}
use Rattle.bmc_ports.specs.Since.{most_turns}
use Rattle.model_bus.specs.Request.{requester_bytes}
use Rattle.bmc_ports.specs.Silence.{silent_turns}
use Rattle.bmc_ports.proofs.silence.Silence.count_more.Given as goal

-- those so far have a turn more, and the others are as they were
abbrev pub invariant-loop-who : goal.invariant-loop-who
invariant-loop-who l = record {
  more : (who : ℕ) → who < l.who → silent_turns l.self who ≡ min (silent_turns l.initial.self who + 1) most_turns;
  same : (who : ℕ) → l.who ≤ who → who < requester_bytes → silent_turns l.self who ≡ silent_turns l.initial.self who;
}
