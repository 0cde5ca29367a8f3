-- No operation on a record sets a password.
use Rattle.std.proofs.Common.{◌≡◌, ◌≢◌, ℕ, List, sym, ap, ◌∙◌, arith}
use Rattle.record_base.specs.declared.message.Asked.TheVariants.{Ipmi}
use Rattle.record_base.specs.declared.op.Op.{Op}
use Rattle.record_base.specs.declared.op.Op.TheVariants as op
use Rattle.record_kinds.specs.Series.{set_whole}
use Rattle.text_journal.specs.JournalSteps.{head_in, head_of}
use Rattle.record_words.proofs.ReadBack.{whole_head}

-- an operation has another command
other_command : (any : Op) → (head_of any).command ≢ 0x47
other_command (op.Thresholds set) = λ (e : 0x26 ≡ 0x47). omega (arith, e)
other_command (op.Hysteresis set) = λ (e : 0x24 ≡ 0x47). omega (arith, e)
other_command (op.EventEnable set) = λ (e : 0x28 ≡ 0x47). omega (arith, e)
other_command (op.PowerPolicy set) = λ (e : 0x06 ≡ 0x47). omega (arith, e)
other_command (op.Watchdog set) = λ (e : 0x24 ≡ 0x47). omega (arith, e)
other_command (op.GlobalEnables set) = λ (e : 0x2E ≡ 0x47). omega (arith, e)
other_command (op.BootParam set) = λ (e : 0x08 ≡ 0x47). omega (arith, e)
other_command (op.NumericEffecter set) = λ (e : 0x31 ≡ 0x47). omega (arith, e)
other_command (op.StateEffecter set) = λ (e : 0x39 ≡ 0x47). omega (arith, e)
other_command (op.UserName set) = λ (e : 0x45 ≡ 0x47). omega (arith, e)
other_command (op.UserAccess set) = λ (e : 0x43 ≡ 0x47). omega (arith, e)
other_command (op.ChannelAccess set) = λ (e : 0x40 ≡ 0x47). omega (arith, e)
other_command (op.BiosAttribute set) = λ (e : 0x07 ≡ 0x47). omega (arith, e)
other_command (op.LanParam set) = λ (e : 0x01 ≡ 0x47). omega (arith, e)

pub no_op : (lun : ℕ) (body : List ℕ) (any : Op) → set_whole any ≢ Ipmi 0 0x06 lun 0x47 body
no_op lun body any e =
    let same : head_of any ≡ head_in (Ipmi 0 0x06 lun 0x47 body) = sym (whole_head any) ∙ ap head_in e in
    other_command any (λ i. (same i).command)
