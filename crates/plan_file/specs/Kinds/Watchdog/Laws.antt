-- A table holds one step that sets the watchdog timer, at most.
use Rattle.std.proofs.Common.{◌≡◌, ◌<◌, ◌/◌, ◌%◌, ◌∙◌, ℕ, sym, arith, ap}
use Rattle.std.proofs.lemmas.Nat.Bits.{bit_at-lt}
use Rattle.std.specs.Int.{bit_at}
use Rattle.toml.specs.Data.{Members}
use Rattle.record_base.specs.Masks.{has}
use Rattle.record_base.specs.declared.op.Op.TheVariants as op
use Rattle.record_base.specs.declared.watchdog.SetWatchdog.{SetWatchdog}
use Rattle.text_fields.specs.declared.field.Field.TheVariants as field
use Rattle.text_fields.specs.Trees.{flag_in}
use Rattle.plan_file.specs.Kinds.Watchdog.{HoldsWatchdog, HoldsOp}
use Rattle.text_fields.proofs.Unique.{one_found, one_number, same_bit}
use Rattle.plan_file.specs.StepKind.{IsOne}

-- a byte is bits 6:0 and bit 7
one_use : (a b : ℕ) → a < 256 → b < 256 → a % 128 ≡ b % 128 → bit_at a 7 ≡ bit_at b 7 → a ≡ b
one_use a b p q low high = let top : a / 128 % 2 ≡ b / 128 % 2 = high in omega arith

one : (tree : Members) (a b : SetWatchdog) → HoldsWatchdog tree a → HoldsWatchdog tree b → a ≡ b
one tree a b p q =
    let low = one_number field.Use tree (a.timer_use % 128) (b.timer_use % 128) p.timer_use q.timer_use in
    let high = one_found (flag_in field.NoLog tree) (has a.timer_use 7) (has b.timer_use 7) p.no_log q.no_log in
    let use_byte = one_use a.timer_use b.timer_use p.byte q.byte low (same_bit (bit_at a.timer_use 7) (bit_at b.timer_use 7) (bit_at-lt a.timer_use 7) (bit_at-lt b.timer_use 7) high) in
    let action = one_number field.Action tree (a.actions % 16) (b.actions % 16) p.action q.action in
    let interrupt = one_number field.Interrupt tree (a.actions / 16) (b.actions / 16) p.interrupt q.interrupt in
    let actions : a.actions ≡ b.actions = omega (arith, action, interrupt) in
    let pre_timeout = one_number field.Pre tree a.pre_timeout b.pre_timeout p.pre_timeout q.pre_timeout in
    let flags = p.flags_to_clear ∙ sym q.flags_to_clear in
    let initial = one_number field.Initial tree a.initial b.initial p.initial q.initial in
    λ i. record { timer_use = use_byte i; actions = actions i; pre_timeout = pre_timeout i; flags_to_clear = flags i; initial = initial i }

-- the operation that such a step holds is one
pub only : IsOne HoldsOp
only tree = elim [ op.Watchdog a ↦ elim [ op.Watchdog b ↦ λ p q. ap op.Watchdog (one tree a b p q) | _ ↦ λ p q. absurd q ] | _ ↦ λ b p. absurd p ]
