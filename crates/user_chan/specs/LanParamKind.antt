-- The kind LanParam, and its place among all kinds.
use Rattle.record_base.specs.declared.lan_parameter.ParameterOnChannel.{ParameterOnChannel}
use Rattle.record_base.specs.declared.lan_parameter.SetLanParam.{SetLanParam}
use Rattle.record_base.specs.Kind.{Kind}
use Rattle.record_base.specs.Member.{Member}
use Rattle.user_chan.specs.declared.lan_param.LanParamLimits.{LanParamLimits}
use Rattle.user_chan.specs.LanParam.{words, record_words, place}
use Rattle.user_chan.specs.LanParamLaws.{kind_laws, record_laws}

-- the words and the laws of the kind
abbrev pub kind : Kind ParameterOnChannel SetLanParam LanParamLimits
kind = record { words = words; record_words = λ limits. record_words limits.parameter; kind_laws = kind_laws; record_laws = λ limits. record_laws limits.parameter }

-- the kind, and its place among all kinds
abbrev pub member : Member ParameterOnChannel SetLanParam LanParamLimits
member = record { kind = kind; place = place }
