-- What a link counts.
use Rattle.std.specs.Prelude.{ℕ, zero, suc, ◌+◌, ◌%◌, ◌^◌, Result, Ok, Err}
use Rattle.wire_links.specs.declared.link.Counts.{Counts}
use Rattle.wire_links.specs.declared.link.Heard.{Heard}
use Rattle.wire_links.specs.declared.link.Heard.TheVariants.{Frame, Quiet}
use Rattle.wire_links.specs.declared.link.LinkFault.{LinkFault}

-- nothing yet
abbrev pub none_counted : Counts
none_counted = record { failures = 0; calls = 0; heard = 0; sends = 0 }

-- one more, and 0 after the last value of 64 bits
abbrev pub one_more : ℕ → ℕ
one_more count = (count + 1) % 2 ^ 64

-- a link's count, so many later
abbrev pub counted_on : ℕ → ℕ → ℕ
counted_on count zero = count
counted_on count (suc more) = one_more (counted_on count more)

-- `next` counts its call, and the frame that it heard or its failure
abbrev pub after_next : Result Heard LinkFault → Counts → Counts
after_next (Ok (Frame frame)) before = record before { calls = one_more before.calls; heard = one_more before.heard }
after_next (Ok Quiet) before = record before { calls = one_more before.calls }
after_next (Err fault) before = record before { calls = one_more before.calls; failures = one_more before.failures }

-- `send` counts its call, and its failure
abbrev pub after_send : Result (Unit {0}) LinkFault → Counts → Counts
after_send (Ok done) before = record before { sends = one_more before.sends }
after_send (Err fault) before = record before { sends = one_more before.sends; failures = one_more before.failures }
