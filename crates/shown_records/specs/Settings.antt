-- What the Gets of a controller's own records show behind an operation (IPMI 2.0, and DSP0247 of attributes).
use Rattle.std.specs.Prelude.{ℕ, ◌+◌, ◌*◌, ◌/◌, ◌%◌, nat_lt, List, [], ◌∷◌, ◌++◌, drop, take, slice_index, if◌then◌else◌}
use Rattle.std.specs.Int.{w16, to_le_bytes}
use Rattle.record_base.specs.declared.bios_attribute.SetBiosAttribute.{SetBiosAttribute}
use Rattle.record_base.specs.declared.boot_param.BootChange.{BootChange}
use Rattle.record_base.specs.declared.boot_param.BootChange.TheVariants.{MarkAlone, ValidBitClearing, InfoAcknowledge, Flags}
use Rattle.record_base.specs.declared.boot_param.SetBootParam.{SetBootParam}
use Rattle.record_base.specs.declared.global_enables.SetGlobalEnables.{SetGlobalEnables}
use Rattle.record_base.specs.declared.power_policy.SetPowerPolicy.{SetPowerPolicy}
use Rattle.record_base.specs.declared.watchdog.SetWatchdog.{SetWatchdog}
use Rattle.record_base.specs.AttributeSizes.{before_value}
use Rattle.record_base.specs.BootParam.{flag_bytes, parameter_of}
use Rattle.watch_boot.specs.BootParam.{marked, masked_byte}
use Rattle.watch_boot.specs.PowerPolicy.{asked_policy}
use Rattle.watch_boot.specs.Watchdog.{kept_use, kept_actions}

-- the first byte of a status: bits 6:5 become the policy, where that is 0, 1 or 2, and another policy changes nothing
abbrev pub status_after : SetPowerPolicy → (old : ℕ) → ℕ
status_after op old = if nat_lt (asked_policy op) 3 then old / 128 * 128 + asked_policy op * 32 + old % 32 else old

abbrev pub after_policy : SetPowerPolicy → List ℕ → List ℕ
after_policy op shown = status_after op (slice_index shown 0) ∷ slice_index shown 1 ∷ slice_index shown 2 ∷ []

-- The settings become the operation's: the use, beside the bit that says whether the timer runs, the actions, the pre-timeout interval, and
-- behind the flags the countdown's first number. The rest of the countdown is no setting.
abbrev pub after_watchdog : SetWatchdog → List ℕ → List ℕ
after_watchdog op shown =
    (kept_use op.timer_use + slice_index shown 0 / 64 % 2 * 64) ∷ kept_actions op.actions ∷ op.pre_timeout ∷ slice_index shown 3
    ∷ (to_le_bytes w16 op.initial ++ slice_index shown 6 ∷ slice_index shown 7 ∷ [])

-- the byte becomes the operation's
abbrev pub after_enables : SetGlobalEnables → List ℕ → List ℕ
after_enables op shown = op.byte ∷ []

-- the data of a boot parameter behind its selector: of parameter 4 the masked bits become the operation's, and the byte before them stays
abbrev pub boot_data_after : BootChange → List ℕ → List ℕ
boot_data_after (MarkAlone parameter) shown = drop 2 shown
boot_data_after (ValidBitClearing byte) shown = byte % 32 ∷ []
boot_data_after (InfoAcknowledge masked) shown = slice_index shown 2 ∷ masked_byte masked.mask masked.bits (slice_index shown 3) ∷ []
boot_data_after (Flags flags) shown = flag_bytes flags

-- the mark beside the selector becomes the operation's, and so do the data that it gives
abbrev pub after_boot_param : SetBootParam → List ℕ → List ℕ
after_boot_param op shown = slice_index shown 0 ∷ marked op.invalid (parameter_of op.change) ∷ boot_data_after op.change shown

-- the value behind an attribute's handle and its type becomes the operation's
abbrev pub after_attribute : SetBiosAttribute → List ℕ → List ℕ
after_attribute op shown = take before_value shown ++ op.value
