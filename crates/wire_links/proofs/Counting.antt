-- Counts of a link, one after another.
use Rattle.std.specs.Prelude.{Ok, Err}
use Rattle.std.proofs.Common.{◌≡◌, ◌+◌, ℕ, zero, suc, ap, ◌∙◌, arith}
use Rattle.wire_links.specs.declared.link.Counts.{Counts}
use Rattle.wire_links.specs.Counted.{one_more, counted_on, after_send}
use Rattle.wire_links.specs.Trace.{Sending}

-- more on a count, and then more
pub counted_twice : (count first later : ℕ) → counted_on (counted_on count first) later ≡ counted_on count (later + first)
counted_twice count first zero = let same : first ≡ 0 + first = omega arith in ap (counted_on count) same
counted_twice count first (suc later) =
    let same : suc (later + first) ≡ suc later + first = omega arith in
    ap one_more (counted_twice count first later) ∙ ap (counted_on count) same

-- a sending counts no call of `next`, and nothing that was heard
pub send_keeps : (answer : Sending) (before after : Counts) → after ≡ after_send answer before → (after.calls ≡ before.calls) × (after.heard ≡ before.heard)
send_keeps (Ok done) before after is = (ap (λ (c : Counts). c.calls) is, ap (λ (c : Counts). c.heard) is)
send_keeps (Err fault) before after is = (ap (λ (c : Counts). c.calls) is, ap (λ (c : Counts). c.heard) is)
