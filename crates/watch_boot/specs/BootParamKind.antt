-- The kind BootParam, and its place among all kinds.
use Rattle.record_base.specs.declared.boot_param.BootParameter.{BootParameter}
use Rattle.record_base.specs.declared.boot_param.SetBootParam.{SetBootParam}
use Rattle.record_base.specs.Kind.{Kind}
use Rattle.record_base.specs.Member.{Member}
use Rattle.watch_boot.specs.declared.boot_param.BootParamLimits.{BootParamLimits}
use Rattle.watch_boot.specs.BootParam.{words, record_words, place}
use Rattle.watch_boot.specs.BootParamLaws.{kind_laws, record_laws}

-- the words and the laws of the kind
abbrev pub kind : Kind BootParameter SetBootParam BootParamLimits
kind = record { words = words; record_words = λ limits. record_words limits.parameter; kind_laws = kind_laws; record_laws = λ limits. record_laws limits.parameter }

-- the kind, and its place among all kinds
abbrev pub member : Member BootParameter SetBootParam BootParamLimits
member = record { kind = kind; place = place }
