use Rattle.std.proofs.Common.{◌≡◌}
use Rattle.app_serve.proofs.wakeful_link.WakefulLink.hear.Given as goal

-- what was counted, the port and the wait are as before
abbrev pub invariant-loop : goal.invariant-loop
invariant-loop g l =
    (l.self.counts ≡ l.initial.self.counts) × (l.self.link.named ≡ l.initial.self.link.named) × (l.self.wait_ms ≡ l.initial.self.wait_ms)
