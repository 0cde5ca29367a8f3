-- The boot flags in words (IPMI 2.0, boot option parameter 5).
use Rattle.std.specs.Prelude.{ℕ, ◌/◌, ◌%◌, ◌==◌, bit_and, List, [], ◌∷◌, ◌++◌, if◌then◌else◌, codes}
use Rattle.record_base.specs.Masks.{has}
use Rattle.record_base.specs.declared.boot_param.BootFlags.{BootFlags}
use Rattle.record_words.specs.declared.meaning.Meaning.{Meaning}
use Rattle.record_words.specs.declared.meaning.Meaning.TheVariants as meaning
use Rattle.record_words.specs.Meanings.{meaning_words}
use Rattle.record_words.specs.declared.boot_way.BootWay.{BootWay}

-- the device of a selector
abbrev pub device_of : ℕ → Meaning
device_of selector =
    if selector == 0 then meaning.NoOverride
    else (if selector == 1 then meaning.Pxe
    else (if selector == 2 then meaning.Disk
    else (if selector == 3 then meaning.SafeDisk
    else (if selector == 4 then meaning.Diagnostic
    else (if selector == 5 then meaning.CdDvd
    else (if selector == 6 then meaning.BiosSetup
    else (if selector == 7 then meaning.RemoteFloppy
    else (if selector == 8 then meaning.RemoteCdDvd
    else (if selector == 9 then meaning.RemoteMedia
    else (if selector == 10 then meaning.TenthDevice
    else (if selector == 11 then meaning.RemoteDisk
    else (if selector == 12 then meaning.TwelfthDevice
    else (if selector == 13 then meaning.ThirteenthDevice
    else (if selector == 14 then meaning.FourteenthDevice else meaning.Floppy))))))))))))))

-- how the flags say that a system boots
abbrev pub way_of : BootFlags → BootWay
way_of flags = record {
  device = flags.device / 4 % 16;
  lasting = has flags.validity 6;
  efi = has flags.validity 5;
  valid = has flags.validity 7;
}

-- the bits of the flags beside it: bits 4:0 of the first byte, 7:6 and 1:0 of the second, and the others
abbrev pub other_flags : BootFlags → List ℕ
other_flags flags = flags.validity % 32 ∷ bit_and flags.device 0xC3 ∷ flags.console ∷ flags.overrides ∷ flags.instance ∷ []

-- from where, whether once or each time, by what, and whether it isn't valid
abbrev pub way_words : BootWay → List ℕ
way_words way =
    meaning_words (device_of way.device)
    ++ (codes ", "
    ++ ((if way.lasting then codes "each time" else codes "once")
    ++ (codes ", "
    ++ ((if way.efi then codes "EFI" else codes "BIOS") ++ (if way.valid then [] else codes ", not valid")))))
