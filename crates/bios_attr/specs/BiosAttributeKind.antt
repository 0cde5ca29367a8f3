-- BiosAttribute as one value, and where it stands among all kinds.
use Rattle.std.specs.Prelude.{ℕ}
use Rattle.record_base.specs.declared.bios_attribute.SetBiosAttribute.{SetBiosAttribute}
use Rattle.record_base.specs.Kind.{Kind}
use Rattle.record_base.specs.Member.{Member}
use Rattle.bios_attr.specs.declared.bios_attribute.AttributeLimits.{AttributeLimits}
use Rattle.bios_attr.specs.BiosAttribute.{words, record_words, place}
use Rattle.bios_attr.specs.BiosAttributeLaws.{kind_laws, record_laws}

-- what it says, and that it holds
abbrev pub kind : Kind ℕ SetBiosAttribute AttributeLimits
kind = record { words = words; record_words = record_words; kind_laws = kind_laws; record_laws = record_laws }

-- the kind, and where it stands among all
abbrev pub member : Member ℕ SetBiosAttribute AttributeLimits
member = record { kind = kind; place = place }
