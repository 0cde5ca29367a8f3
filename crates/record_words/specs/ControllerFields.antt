-- The fields of the records that a controller has once (IPMI 2.0).
use Rattle.std.specs.Prelude.{ℕ, ◌/◌, ◌%◌, ◌==◌, ◌<◌, Bool, true, List, [], ◌∷◌, bit_and, if◌then◌else◌}
use Rattle.record_base.specs.Masks.{has}
use Rattle.record_base.specs.declared.power_policy.SetPowerPolicy.{SetPowerPolicy}
use Rattle.record_base.specs.declared.watchdog.SetWatchdog.{SetWatchdog}
use Rattle.record_base.specs.declared.global_enables.SetGlobalEnables.{SetGlobalEnables}
use Rattle.record_base.specs.declared.boot_param.SetBootParam.{SetBootParam}
use Rattle.record_base.specs.declared.boot_param.BootFlags.{BootFlags}
use Rattle.record_base.specs.declared.boot_param.MaskedBits.{MaskedBits}
use Rattle.record_base.specs.declared.boot_param.BootParameter.{BootParameter}
use Rattle.record_base.specs.declared.boot_param.BootParameter.TheVariants as parameter
use Rattle.record_base.specs.declared.boot_param.BootChange.{BootChange}
use Rattle.record_base.specs.declared.boot_param.BootChange.TheVariants.{MarkAlone, ValidBitClearing, InfoAcknowledge, Flags}
use Rattle.record_words.specs.declared.field.Field.{Field}
use Rattle.record_words.specs.declared.meaning.Meaning.TheVariants as meaning
use Rattle.record_words.specs.declared.shown.Shown.{Shown}
use Rattle.record_words.specs.declared.shown.Shown.TheVariants.{Kept, Bits, Number, Switch, Means, Masked, Boot, Bytes}
use Rattle.record_words.specs.declared.term.Term.TheVariants as term
use Rattle.record_words.specs.FieldWords.{field, whole}
use Rattle.record_words.specs.BootWords.{way_of, other_flags}

-- the policy of these bits: 3 changes none
abbrev pub policy : ℕ → Shown
policy bits =
    if bits == 0 then Means meaning.AlwaysOff
    else (if bits == 1 then Means meaning.Previous
    else (if bits == 2 then Means meaning.AlwaysOn
    else (if bits == 3 then Kept else Bits bits)))

abbrev pub power_policy : SetPowerPolicy → List Field
power_policy set = whole (policy (set.policy % 8)) ∷ []

-- what a watchdog timer is used for
abbrev pub timer_use : ℕ → Shown
timer_use bits =
    if bits == 0 then Means meaning.NoUse
    else (if bits == 1 then Means meaning.BiosFrb2
    else (if bits == 2 then Means meaning.BiosPost
    else (if bits == 3 then Means meaning.OsLoad
    else (if bits == 4 then Means meaning.SmsOs
    else (if bits == 5 then Means meaning.OemUse else Bits bits)))))

-- the interrupt before it ends
abbrev pub interrupt : ℕ → Shown
interrupt bits =
    if bits == 0 then Means meaning.NoInterrupt
    else (if bits == 1 then Means meaning.Smi
    else (if bits == 2 then Means meaning.Nmi
    else (if bits == 3 then Means meaning.MessagingInterrupt else Bits bits)))

-- what is done when it ends
abbrev pub action : ℕ → Shown
action bits =
    if bits == 0 then Means meaning.NoAction
    else (if bits == 1 then Means meaning.HardReset
    else (if bits == 2 then Means meaning.PowerDown
    else (if bits == 3 then Means meaning.PowerCycle else Bits bits)))

-- a place of a byte's bits
abbrev pub IsPlace : ℕ → Type 0
IsPlace place = place < 8

-- a bit that is said of only where it is set
abbrev pub where_set : (byte place : ℕ) → Shown
where_set byte place = if has byte place then Switch true else Kept

-- the expiration flags to clear, where there are some
abbrev pub flags_to_clear : ℕ → Shown
flags_to_clear flags = if flags == 0 then Kept else Bits flags

abbrev pub watchdog : SetWatchdog → List Field
watchdog set =
    field term.TimerUse (timer_use (set.timer_use % 8)) ∷
    field term.DoNotLog (Switch (has set.timer_use 7)) ∷
    field term.DoNotStop (where_set set.timer_use 6) ∷
    field term.PreTimeoutInterrupt (interrupt (set.actions / 16 % 8)) ∷
    field term.TimeoutAction (action (set.actions % 8)) ∷
    field term.PreTimeoutInterval (Number set.pre_timeout) ∷
    field term.FlagsToClear (flags_to_clear set.flags_to_clear) ∷
    field term.InitialCountdown (Number set.initial) ∷
    []

abbrev pub global_enables : SetGlobalEnables → List Field
global_enables set =
    field term.MessageQueueInterrupt (Switch (has set.byte 0)) ∷
    field term.BufferFullInterrupt (Switch (has set.byte 1)) ∷
    field term.MessageBuffer (Switch (has set.byte 2)) ∷
    field term.EventLogging (Switch (has set.byte 3)) ∷
    field term.ReservedEnable (where_set set.byte 4) ∷
    field term.FirstOem (Switch (has set.byte 5)) ∷
    field term.SecondOem (Switch (has set.byte 6)) ∷
    field term.ThirdOem (Switch (has set.byte 7)) ∷
    []

-- the fields of boot parameters 3, 4 and 5
abbrev pub clearing : Bool → Shown → List Field
clearing invalid bits = field term.ValidBitClearing bits ∷ field term.ClearingInvalid (Switch invalid) ∷ []

abbrev pub acknowledge : Bool → Shown → List Field
acknowledge invalid bits = field term.InfoAcknowledge bits ∷ field term.AcknowledgeInvalid (Switch invalid) ∷ []

abbrev pub flags : Bool → (device others : Shown) → List Field
flags invalid device others = field term.BootDevice device ∷ field term.OtherBootFlags others ∷ field term.FlagsInvalid (Switch invalid) ∷ []

-- the masked bits, where the mask has some
abbrev pub masked : MaskedBits → Shown
masked bits = if bits.mask == 0 then Kept else Masked (record { mask = bits.mask; bits = bit_and bits.bits bits.mask })

-- of an operation that leaves the data
abbrev pub mark_alone : Bool → BootParameter → List Field
mark_alone invalid parameter.ValidBitClearing = clearing invalid Kept
mark_alone invalid parameter.InfoAcknowledge = acknowledge invalid Kept
mark_alone invalid parameter.Flags = flags invalid Kept Kept

abbrev pub boot_flags : Bool → BootFlags → List Field
boot_flags invalid to = flags invalid (Boot (way_of to)) (Bytes (other_flags to))

-- of a change
abbrev pub boot_change : Bool → BootChange → List Field
boot_change invalid (MarkAlone of) = mark_alone invalid of
boot_change invalid (ValidBitClearing byte) = clearing invalid (Bits (byte % 32))
boot_change invalid (InfoAcknowledge bits) = acknowledge invalid (masked bits)
boot_change invalid (Flags to) = boot_flags invalid to

abbrev pub boot_param : SetBootParam → List Field
boot_param set = boot_change set.invalid set.change
